use Rattle.std.proofs.Common.{inl, inr}
use Rattle.world_base.specs.node_connections.ConnectionChanges.{closed_connection, failing}
use Rattle.world_base.proofs.of_node_core.Changes.{core_changed, core_unchanged}
use Rattle.world_base.proofs.node_core.stepping_node.SteppingNode.give_up.Goals as goal

pub returns-in-Some-clause-lossy : goal.returns-in-Some-clause-lossy
returns-in-Some-clause-lossy c =
    rw (← c.self.view_is) (inr (core_changed c.args.port failing _ c.index_at.result c.in-Some.index c.index_mut.result.now _
    (rw (← c.self.view_is) at c.index_at.ensures) c.in-Some.is c.index_mut.ensures.value c.fail.ensures))

pub returns-in_default-clause-lossy : goal.returns-in_default-clause-lossy
returns-in_default-clause-lossy c = inl (core_unchanged c.args.port closed_connection _ c.index_at.result c.index_at.ensures c.in_default.is)
