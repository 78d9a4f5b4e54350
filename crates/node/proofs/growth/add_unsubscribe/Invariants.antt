use Rattle.std.proofs.Common.{◌≡◌, ℕ, ◌+◌, List, length, take}
use Rattle.std.specs.Prelude.{sum_by}
use Rattle.node.specs.Growth.{saturated}
use Rattle.node.proofs.growth.add_unsubscribe.Given as goal

abbrev pub invariant-loop-filter : goal.invariant-loop-filter
invariant-loop-filter l =
    l.bytes ≡ saturated (l.initial.bytes + sum_by (λ (filter : List ℕ). length filter) (take l.filter-index l.filters))
