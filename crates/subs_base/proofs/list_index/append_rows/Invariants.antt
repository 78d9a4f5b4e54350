-- The rows of the clients so far come after those that were there.
use Rattle.std.proofs.Common.{◌≡◌, ◌++◌, take, length, ℕ, List, Some}
use Rattle.std.specs.Map.{keys_of}
use Rattle.std.specs.List.Sorted.{IsStrictlySortedBy}
use Rattle.std.specs.Cmp.Lexicographic.{slice_cmp}
use Rattle.std.specs.Ordering.{nat_cmp}
use Rattle.subs_base.specs.ListIndex.{Filters, at}
use Rattle.subs_base.specs.Inside.{rows_of, listed, AreOrdered}
use Rattle.subs_base.proofs.list_index.append_rows.Given as goal

abbrev pub invariant-loop-client : goal.invariant-loop-client
invariant-loop-client l = record {
  whole : l.rows.items ++ rows_of l.topic (listed l.client-iterator) ≡ l.fn.rows.items ++ rows_of l.topic (listed l.clients.entries);
  ordered : AreOrdered (listed l.client-iterator) → AreOrdered (listed l.clients.entries);
  there :
      (client : List ℕ) (filters : Filters)
      → at client (listed l.client-iterator) ≡ Some filters → at client (listed l.clients.entries) ≡ Some filters;
  sorted : IsStrictlySortedBy (slice_cmp nat_cmp) (keys_of l.client-iterator);
  front : l.fn.rows.items ≡ take (length l.fn.rows.items) l.rows.items;
}
