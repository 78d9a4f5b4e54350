-- The row came after those of its filter, or is the first of a new one.
use Rattle.std.proofs.Common.{rules, ◌≡◌, ◌∙◌, ap, sym, subst, ℕ, List, Some, cond}
use Rattle.std.specs.Map.{lookup}
use Rattle.std.specs.Prelude.{bytes_eq}
use Rattle.subs_base.specs.Content.{with_row}
use Rattle.subs_base.proofs.ContentAfter.{on_ok}
use Rattle.subs.specs.declared.group.Group.TheVariants.{One}
use Rattle.subs.specs.Gathered.{gathered, groups_as_lists}
use Rattle.subs.proofs.RowsGathered.{row_added, row_pushed, row_first}
use Rattle.subs.proofs.row_groups.add_row.Goals as goal

pub returns-in-Some : goal.returns-in-Some
returns-in-Some c =
    on_ok c.add.result
    (λ added.
    row_added c.args.groups.now.entries (c.get_mut.follows.lender c.add.new.self).entries c.args.filter.now c.args.row c.add.new.self
    ((c.get_mut.follows.holds c.add.new.self).3 (search rules)).0
    (row_pushed c.args.groups.now.entries c.args.filter.now c.args.row c.in-Some.group.now c.add.new.self c.in-Some.ensures.value added))
    c.add.ensures

pub returns : goal.returns
returns c =
    row_added c.get_mut.follows.lender-at-none.entries c.insert.new.self.entries c.args.filter.now c.args.row (One c.args.row.0 c.args.row.1)
    (subst
    (λ (k : List ℕ). (q : List ℕ) → lookup (bytes_eq q) c.insert.new.self.entries ≡ cond (bytes_eq k q) (Some (One c.args.row.0 c.args.row.1)) (lookup (bytes_eq q) c.get_mut.follows.lender-at-none.entries))
    c.in_ok-clone.ensures.cases
    c.in_ok-insert.ensures.updates.0)
    (row_first c.get_mut.follows.lender-at-none.entries c.args.filter.now c.args.row
    (c.in_default.ensures.value ∙ sym (ap (λ m. lookup (bytes_eq c.args.filter.now) m.entries) c.get_mut.follows.holds-at-none)))
    ∙ ap (λ m. with_row (gathered (groups_as_lists m.entries)) c.args.row.0 c.args.filter.now c.args.row.1) c.get_mut.follows.holds-at-none
