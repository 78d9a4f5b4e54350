use Rattle.std.proofs.Common.{inl, inr}
use Rattle.world_base.specs.node_connections.ConnectionChanges.{failing, with_queued}
use Rattle.packet.specs.Spelling.{spelling}
use Rattle.world_base.proofs.of_node_core.Changes.{named_there, named_nowhere, core_named, core_unnamed}
use Rattle.world_base.proofs.node_core.stepping_node.SteppingNode.put.Goals as goal

pub returns-else-not-whole-clause-exact : goal.returns-else-not-whole-clause-exact
returns-else-not-whole-clause-exact c = λ _.
    rw (← c.self.view_is) (named_there c.args.name (with_queued (spelling c.args.packet.now)) _ c.index_of.result c.in-Some.index
    c.index_mut.result.now _ (rw (← c.self.view_is) at c.index_of.ensures) c.in-Some.is c.index_mut.ensures.value
    (c.put_or_fail-whole.ensures.whole c.if-not-whole.false))

pub returns-else-not-whole-clause-lossy : goal.returns-else-not-whole-clause-lossy
returns-else-not-whole-clause-lossy c =
    rw (← c.self.view_is) (inl (core_named c.args.name (with_queued (spelling c.args.packet.now)) _ c.index_of.result c.in-Some.index
    c.index_mut.result.now _ (rw (← c.self.view_is) at c.index_of.ensures) c.in-Some.is c.index_mut.ensures.value
    (c.put_or_fail-whole.ensures.whole c.if-not-whole.false)))

pub returns-then-not-whole-clause-lossy : goal.returns-then-not-whole-clause-lossy
returns-then-not-whole-clause-lossy c =
    rw (← c.self.view_is) (inr (core_named c.args.name failing _ c.index_of.result c.in-Some.index
    c.index_mut.result.now _ (rw (← c.self.view_is) at c.index_of.ensures) c.in-Some.is c.index_mut.ensures.value
    (c.put_or_fail-whole.ensures.lost c.if-not-whole.true)))

pub returns-in_default-clause-exact : goal.returns-in_default-clause-exact
returns-in_default-clause-exact c = λ _.
    named_nowhere c.args.name (with_queued (spelling c.args.packet.now)) _ c.index_of.result c.index_of.ensures c.in_default.is

pub returns-in_default-clause-lossy : goal.returns-in_default-clause-lossy
returns-in_default-clause-lossy c =
    inl (core_unnamed c.args.name (with_queued (spelling c.args.packet.now)) _ c.index_of.result c.index_of.ensures c.in_default.is)
