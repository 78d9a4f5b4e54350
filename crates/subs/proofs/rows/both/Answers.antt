-- The map has one row and then the other, at copies of their clients.
use Rattle.std.proofs.Common.{ℕ, List, Some, subst}
use Rattle.std.specs.BTreeMap.{Updates}
use Rattle.std.specs.Cmp.Lexicographic.{slice_cmp}
use Rattle.std.specs.Ordering.{nat_cmp}
use Rattle.subs.proofs.RowsSet.{two_set}
use Rattle.subs.proofs.rows.both.Goals as goal

pub returns : goal.returns
returns c =
    two_set c.new-rows.result c.insert.new.self c.insert-2.new.self c.args.owner.now c.args.client.now c.args.kept c.args.qos c.new-rows.ensures.empty
    (subst (λ (k : List ℕ). Updates (slice_cmp nat_cmp) c.new-rows.result c.insert.new.self k (Some c.args.kept)) c.in_ok-clone.ensures.cases c.in_ok-insert.ensures.updates)
    (subst (λ (k : List ℕ). Updates (slice_cmp nat_cmp) c.insert.new.self c.insert-2.new.self k (Some c.args.qos)) c.in_ok-clone-2.ensures.cases c.in_ok-insert-2.ensures.updates)
