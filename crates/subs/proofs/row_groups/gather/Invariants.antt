-- Once those that are left are added, all are.
use Rattle.std.proofs.Common.{◌≡◌}
use Rattle.std.specs.Map.{keys_of}
use Rattle.std.specs.List.Sorted.{IsStrictlySortedBy}
use Rattle.std.specs.Cmp.Lexicographic.{slice_cmp}
use Rattle.std.specs.Ordering.{nat_cmp}
use Rattle.subs_base.specs.Content.{no_subscriptions}
use Rattle.subs_base.specs.Inside.{listed, AreOrdered}
use Rattle.subs.specs.Gathered.{gathered, groups_as_lists, clients_set}
use Rattle.subs.proofs.row_groups.gather.Given as goal

abbrev pub invariant-loop-client : goal.invariant-loop-client
invariant-loop-client l = record {
  whole : clients_set (listed l.client-iterator) (gathered (groups_as_lists l.groups.entries)) ≡ clients_set (listed l.clients.entries) no_subscriptions;
  ordered : AreOrdered (listed l.client-iterator) → AreOrdered (listed l.clients.entries);
  sorted : IsStrictlySortedBy (slice_cmp nat_cmp) (keys_of l.clients.entries);
}
