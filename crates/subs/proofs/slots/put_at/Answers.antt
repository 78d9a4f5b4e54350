-- The node of the number has the rows.
use Rattle.std.proofs.Common.{sym}
use Rattle.slab.specs.Slab.{with_value}
use Rattle.subs.specs.Rows.{qos_of_client}
use Rattle.subs.proofs.ChangedSlot.{wrote, filled}
use Rattle.subs.proofs.slots.put_at.Goals as goal

pub returns-in-Some : goal.returns-in-Some
returns-in-Some c =
    let there = sym c.in-Some.ensures.value in
    filled c.args.nodes.now (with_value c.args.nodes.now c.args.slot.node.number c.put.new.self) c.args.slot.node.number c.in-Some.node.now c.put.new.self there
    (wrote c.args.nodes.now c.args.slot.node.number c.in-Some.node.now c.put.new.self there) c.args.slot.rest (qos_of_client c.args.rows) c.put.ensures.rows c.put.ensures.child
