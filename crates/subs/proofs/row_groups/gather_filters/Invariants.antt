-- Once those that are left are added, all are.
use Rattle.std.proofs.Common.{◌≡◌}
use Rattle.subs.specs.Gathered.{gathered, groups_as_lists, filters_set}
use Rattle.subs.proofs.row_groups.gather_filters.Given as goal

abbrev pub invariant-loop-filter : goal.invariant-loop-filter
invariant-loop-filter l =
    filters_set l.client l.filter-iterator (gathered (groups_as_lists l.groups.entries))
    ≡ filters_set l.client l.filters.entries (gathered (groups_as_lists l.fn.groups.entries))
