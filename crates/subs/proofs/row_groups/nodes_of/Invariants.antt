-- Once the groups that are left are put in, all are.
use Rattle.std.proofs.Common.{◌≡◌, bytes_eq}
use Rattle.std.specs.Map.{keys_of}
use Rattle.std.specs.List.{IsDistinct}
use Rattle.subs_base.specs.Content.{no_subscriptions}
use Rattle.subs.specs.Gathered.{all_rows_put, groups_as_lists}
use Rattle.subs.specs.Shown.{content_of_nodes, IsSoundTree}
use Rattle.subs.proofs.row_groups.nodes_of.Given as goal

abbrev pub invariant-loop-filter : goal.invariant-loop-filter
invariant-loop-filter l = record {
  whole : all_rows_put (groups_as_lists l.filter-iterator) (content_of_nodes l.nodes) ≡ all_rows_put (groups_as_lists l.fn.groups.entries) no_subscriptions;
  sound : IsSoundTree l.nodes;
  distinct : IsDistinct bytes_eq (keys_of l.fn.groups.entries);
}
