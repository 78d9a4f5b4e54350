-- Once those that are left are cleared, all are.
use Rattle.std.proofs.Common.{◌≡◌}
use Rattle.subs.specs.Inside.{cleared}
use Rattle.subs.specs.Shown.{content_of_nodes, IsSoundTree}
use Rattle.subs.proofs.tree_index.clear_all.Given as goal

abbrev pub invariant-loop-filter : goal.invariant-loop-filter
invariant-loop-filter l =
    (cleared l.client l.filter-iterator (content_of_nodes l.nodes) ≡ cleared l.client l.filters.entries (content_of_nodes l.fn.nodes))
    × IsSoundTree l.nodes
