use Rattle.std.proofs.Common.{get_or, refl, arith}
use Rattle.master.proofs.Groups.{in_item, least_more}
use Rattle.master.proofs.acknowledged.second_least.Goals as goal

pub bounds-told-slot : goal.bounds-told-slot
bounds-told-slot c = c.requires (get_or c.args.slots.now c.loop-slot.slot-index 0) (in_item c.args.slots.now c.loop-slot.slot-index 0 c.loop-slot-test.true)

pub loop-slot-preserved : goal.loop-slot-preserved
loop-slot-preserved c =
    let low = c.requires (get_or c.args.slots.now c.loop-slot.slot-index 0) (in_item c.args.slots.now c.loop-slot.slot-index 0 c.loop-slot-test.true) in
    least_more c.args.told.now c.args.slots.now c.loop-slot.slot-index c.loop-slot.pair c.next_least-pair.result (get_or c.args.told.now (get_or c.args.slots.now c.loop-slot.slot-index 0) 0) _ c.loop-slot-test.true
    c.next_least-pair.ensures refl c.loop-slot.invariant

pub returns-clause-range : goal.returns-clause-range
returns-clause-range c = λ m. omega (arith, c.type_inv.told m)
