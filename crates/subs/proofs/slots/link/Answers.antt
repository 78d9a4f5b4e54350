-- The node of the number has the child at its level.
use Rattle.std.proofs.Common.{sym, Some}
use Rattle.subs_base.proofs.ContentAfter.{on_ok, on_err}
use Rattle.subs.proofs.ChangedSlot.{wrote, linked, stayed}
use Rattle.slab.specs.Slab.{with_value}
use Rattle.subs.proofs.slots.link.Goals as goal

pub returns-in-Some-clause-ok : goal.returns-in-Some-clause-ok
returns-in-Some-clause-ok c =
    let there = sym c.in-Some.ensures.value in
    on_ok c.set_child.result
    (λ sets.
    linked c.args.nodes.now (with_value c.args.nodes.now c.args.at.number c.set_child.new.self) c.args.at.number c.in-Some.node.now c.set_child.new.self there
    (wrote c.args.nodes.now c.args.at.number c.in-Some.node.now c.set_child.new.self there) c.args.level.now (Some c.args.child.number) sets c.set_child.ensures.rows)
    c.set_child.ensures.ok

pub returns-in-Some-clause-err : goal.returns-in-Some-clause-err
returns-in-Some-clause-err c =
    let there = sym c.in-Some.ensures.value in
    on_err c.set_child.result
    (λ same.
    stayed c.args.nodes.now (with_value c.args.nodes.now c.args.at.number c.set_child.new.self) c.args.at.number c.in-Some.node.now c.set_child.new.self there
    (wrote c.args.nodes.now c.args.at.number c.in-Some.node.now c.set_child.new.self there) same c.set_child.ensures.rows)
    c.set_child.ensures.err
