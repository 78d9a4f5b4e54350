-- The clients so far were raised, and those that are left will be.
use Rattle.std.proofs.Common.{◌≡◌, ℕ, List, Some}
use Rattle.std.specs.BTreeMap.{get, is_at}
use Rattle.std.specs.Map.{lookup, keys_of}
use Rattle.std.specs.List.Sorted.{IsStrictlySortedBy}
use Rattle.std.specs.Cmp.Lexicographic.{slice_cmp}
use Rattle.std.specs.Ordering.{nat_cmp}
use Rattle.packet_base.specs.declared.qos.QoS.{QoS}
use Rattle.subs.specs.Walk.{greatest}
use Rattle.subs.proofs.search.raise_each.Given as goal

abbrev pub invariant-loop-client : goal.invariant-loop-client
invariant-loop-client l = record {
  whole :
      (c : List ℕ)
      → greatest (get (slice_cmp nat_cmp) l.found c) (lookup (is_at (slice_cmp nat_cmp c)) l.client-iterator)
      ≡ greatest (get (slice_cmp nat_cmp) l.fn.found c) (get (slice_cmp nat_cmp) l.clients c);
  there : (c : List ℕ) (qos : QoS) → lookup (is_at (slice_cmp nat_cmp c)) l.client-iterator ≡ Some qos → get (slice_cmp nat_cmp) l.clients c ≡ Some qos;
  sorted : IsStrictlySortedBy (slice_cmp nat_cmp) (keys_of l.client-iterator);
}
