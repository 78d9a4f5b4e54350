-- The client's map was there and took the filter, or was made with it.
use Rattle.std.proofs.Common.{rules, ◌≡◌, ◌∙◌, ap, sym, subst, ℕ, List, Some, cond}
use Rattle.std.specs.BTreeMap.{get, is_at}
use Rattle.std.specs.Cmp.Lexicographic.{slice_cmp}
use Rattle.std.specs.Ordering.{nat_cmp}
use Rattle.subs_base.specs.Content.{with_row}
use Rattle.subs_base.specs.ListIndex.{content_of}
use Rattle.subs_base.specs.Inside.{listed}
use Rattle.subs_base.proofs.ContentAfter.{content_held, content_changed, content_kept, held_some, held_none, content_nowhere, on_ok, on_err, anyhow_err}
use Rattle.subs_base.proofs.list_index.ListIndexSubIndex.set.Goals as goal

pub returns-in-Some-clause-ok : goal.returns-in-Some-clause-ok
returns-in-Some-clause-ok c =
    on_ok c.set_filter.result
    (λ u.
    content_changed c.self.inside.clients (c.get_mut.follows.lender c.set_filter.new.filters) c.args.client.now c.args.filter.now (Some c.args.qos)
    c.in-Some.filters.now c.set_filter.new.filters
    (λ f. held_some c.self.inside.clients c.args.client.now f c.in-Some.filters.now c.in-Some.ensures.value)
    u.0
    ((c.get_mut.follows.holds c.set_filter.new.filters).3 (search rules)).0
    ∙ ap (λ v. with_row (content_of v) c.args.client.now c.args.filter.now c.args.qos) c.self.view_is)
    c.set_filter.ensures.ok

pub returns-in-Some-clause-err : goal.returns-in-Some-clause-err
returns-in-Some-clause-err c =
    on_err c.set_filter.result
    (λ e.
    content_kept c.self.inside.clients (c.get_mut.follows.lender c.set_filter.new.filters) c.args.client.now c.in-Some.filters.now c.set_filter.new.filters
    (sym c.in-Some.ensures.value) e
    ((c.get_mut.follows.holds c.set_filter.new.filters).3 (search rules)).0
    ∙ ap content_of c.self.view_is)
    c.set_filter.ensures.err

pub returns-in-Some-clause-absent : goal.returns-in-Some-clause-absent
returns-in-Some-clause-absent c =
    on_err c.set_filter.result
    (λ none.
    ap (λ v. content_of v c.args.client.now c.args.filter.now) (sym c.self.view_is)
    ∙ content_held c.self.inside.clients c.args.client.now c.args.filter.now
    ∙ held_some c.self.inside.clients c.args.client.now c.args.filter.now c.in-Some.filters.now c.in-Some.ensures.value
    ∙ none)
    c.set_filter.ensures.absent

pub returns-in_ok-insert-in-None-clause-ok : goal.returns-in_ok-insert-in-None-clause-ok
returns-in_ok-insert-in-None-clause-ok c =
    content_changed c.get_mut.follows.lender-at-none c.insert.new.self c.args.client.now c.args.filter.now (Some c.args.qos)
    c.new-filters.result c.set_filter-in-None.new.filters
    (λ f. held_none c.get_mut.follows.lender-at-none c.args.client.now f c.new-filters.result
    (c.in-None.ensures.value ∙ sym (ap (λ m. get (slice_cmp nat_cmp) m c.args.client.now) c.get_mut.follows.holds-at-none))
    c.new-filters.ensures.empty)
    c.in_ok-set_filter-in-None.ensures.ok.0
    (subst
    (λ (k : List ℕ). (q : List ℕ) → get (slice_cmp nat_cmp) c.insert.new.self q ≡ cond (is_at (slice_cmp nat_cmp k) q) (Some c.set_filter-in-None.new.filters) (get (slice_cmp nat_cmp) c.get_mut.follows.lender-at-none q))
    c.in_ok-clone-in-None.ensures.cases
    c.in_ok-insert-in-None.ensures.updates.0)
    ∙ ap (λ m. with_row (content_of (listed m.entries)) c.args.client.now c.args.filter.now c.args.qos) c.get_mut.follows.holds-at-none
    ∙ ap (λ v. with_row (content_of v) c.args.client.now c.args.filter.now c.args.qos) c.self.view_is

pub returns-in_err-set_filter-in-None-clause-absent : goal.returns-in_err-set_filter-in-None-clause-absent
returns-in_err-set_filter-in-None-clause-absent c =
    anyhow_err c.from_residual.result
    (ap (λ v. content_of v c.args.client.now c.args.filter.now) (sym c.self.view_is)
    ∙ content_nowhere c.self.inside.clients c.args.client.now c.args.filter.now c.in-None.ensures.value)

pub returns-in_err-clone-in-None-clause-absent : goal.returns-in_err-clone-in-None-clause-absent
returns-in_err-clone-in-None-clause-absent c =
    anyhow_err c.from_residual-in_err-clone-in-None.result
    (ap (λ v. content_of v c.args.client.now c.args.filter.now) (sym c.self.view_is)
    ∙ content_nowhere c.self.inside.clients c.args.client.now c.args.filter.now c.in-None.ensures.value)

pub returns-in_err-insert-in-None-clause-absent : goal.returns-in_err-insert-in-None-clause-absent
returns-in_err-insert-in-None-clause-absent c =
    anyhow_err c.from_residual-in_err-insert-in-None.result
    (ap (λ v. content_of v c.args.client.now c.args.filter.now) (sym c.self.view_is)
    ∙ content_nowhere c.self.inside.clients c.args.client.now c.args.filter.now c.in-None.ensures.value)
