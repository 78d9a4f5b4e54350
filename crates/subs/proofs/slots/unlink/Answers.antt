-- The node of the number has nothing after the level.
use Rattle.std.proofs.Common.{sym, None}
use Rattle.subs.proofs.ChangedSlot.{wrote, linked}
use Rattle.slab.specs.Slab.{with_value}
use Rattle.subs.proofs.slots.unlink.Goals as goal

pub returns-in-Some : goal.returns-in-Some
returns-in-Some c =
    let there = sym c.in-Some.ensures.value in
    linked c.args.nodes.now (with_value c.args.nodes.now c.args.at.number c.drop_child.new.self) c.args.at.number c.in-Some.node.now c.drop_child.new.self there
    (wrote c.args.nodes.now c.args.at.number c.in-Some.node.now c.drop_child.new.self there) c.args.level.now None c.drop_child.ensures.child c.drop_child.ensures.rows
