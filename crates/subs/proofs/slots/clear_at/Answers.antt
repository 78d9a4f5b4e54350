-- The node of the number has no such row any more.
use Rattle.std.proofs.Common.{sym, None}
use Rattle.subs.proofs.ChangedSlot.{wrote, written}
use Rattle.slab.specs.Slab.{with_value}
use Rattle.subs.proofs.slots.clear_at.Goals as goal

pub returns-in-Some-clause-after : goal.returns-in-Some-clause-after
returns-in-Some-clause-after c =
    let there = sym c.in-Some.ensures.value in
    written c.args.nodes.now (with_value c.args.nodes.now c.args.slot.node.number c.clear.new.self) c.args.slot.node.number c.in-Some.node.now c.clear.new.self there
    (wrote c.args.nodes.now c.args.slot.node.number c.in-Some.node.now c.clear.new.self there) c.args.slot.rest c.args.client.now None c.clear.ensures.after c.clear.ensures.child
