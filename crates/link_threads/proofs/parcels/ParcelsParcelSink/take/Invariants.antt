-- The sink has what it had, and the parcel is not kept yet.
use Rattle.std.proofs.Common.{◌≡◌}
use Rattle.link_threads.proofs.parcels.ParcelsParcelSink.take.Given as goal

abbrev pub invariant-loop : goal.invariant-loop
invariant-loop g l = record {
  can : (goal.iterator-loop g).can_next l.iterator';
  ends : (goal.iterator-loop g).is_finite l.iterator';
  same : l.self.parcels.items ≡ l.fn.self.parcels.items;
  left : l.unkept ≡ l.fn.parcel;
}
