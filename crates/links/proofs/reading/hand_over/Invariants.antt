use Rattle.std.specs.Prelude.{◌+◌, length}
use Rattle.links.proofs.HandedOver.{HasHanded}
use Rattle.links.proofs.reading.hand_over.Given as goal

abbrev pub invariant-parcels : goal.invariant-parcels
invariant-parcels g l = HasHanded l.initial.reader l.reader (g.S.ParcelSink.heard l.initial.sink) (g.S.ParcelSink.heard l.sink)

abbrev pub decreases-parcels : goal.decreases-parcels
decreases-parcels g l = length l.reader.unopened + length l.reader.parts
