use Rattle.links.proofs.HandedOver.{handed_all, handed_more, handed_none, handed_till}
use Rattle.links.proofs.Shorter.{hands_shorter}
use Rattle.links.proofs.reading.hand_over.Goals as goal

pub parcels-init : goal.parcels-init
parcels-init g c = handed_none _ _

pub parcels-smaller : goal.parcels-smaller
parcels-smaller g c =
    let hands = rw c.in-Ok-Some.field-0-is at c.in-Ok-Some.ensures.parcel in
    hands_shorter c.parcels.reader c.next.new.self c.in-Ok-Some.parcel hands

pub parcels-preserved : goal.parcels-preserved
parcels-preserved g c =
    let hands = rw c.in-Ok-Some.field-0-is at c.in-Ok-Some.ensures.parcel in
    handed_more _ c.parcels.reader c.next.new.self _ _ _ c.in-Ok-Some.parcel c.parcels.invariant hands c.take.ensures

pub returns-in-Ok-None : goal.returns-in-Ok-None
returns-in-Ok-None g c =
    let dry = rw c.in-Ok-None.field-0-is at c.in-Ok-None.ensures.none in
    handed_all _ c.parcels.reader c.next.new.self _ _ c.parcels.invariant dry.0 dry.1

pub returns-in-Err : goal.returns-in-Err
returns-in-Err g c = handed_till _ c.parcels.reader c.next.new.self _ _ c.in-Err.fault c.parcels.invariant c.in-Err.ensures.refused
