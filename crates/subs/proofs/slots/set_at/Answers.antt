-- The node of the number has the row.
use Rattle.std.proofs.Common.{sym, Some}
use Rattle.subs_base.proofs.ContentAfter.{on_ok, on_err}
use Rattle.subs.proofs.ChangedSlot.{wrote, written, stayed}
use Rattle.slab.specs.Slab.{with_value}
use Rattle.subs.proofs.slots.set_at.Goals as goal

pub returns-in-Some-clause-ok : goal.returns-in-Some-clause-ok
returns-in-Some-clause-ok c =
    let there = sym c.in-Some.ensures.value in
    on_ok c.set.result
    (λ sets.
    written c.args.nodes.now (with_value c.args.nodes.now c.args.slot.node.number c.set.new.self) c.args.slot.node.number c.in-Some.node.now c.set.new.self there
    (wrote c.args.nodes.now c.args.slot.node.number c.in-Some.node.now c.set.new.self there) c.args.slot.rest c.args.client.now (Some c.args.qos) sets c.set.ensures.child)
    c.set.ensures.ok

pub returns-in-Some-clause-err : goal.returns-in-Some-clause-err
returns-in-Some-clause-err c =
    let there = sym c.in-Some.ensures.value in
    on_err c.set.result
    (λ same.
    stayed c.args.nodes.now (with_value c.args.nodes.now c.args.slot.node.number c.set.new.self) c.args.slot.node.number c.in-Some.node.now c.set.new.self there
    (wrote c.args.nodes.now c.args.slot.node.number c.in-Some.node.now c.set.new.self there) c.set.ensures.child same)
    c.set.ensures.err
