use Rattle.world_base.specs.node_connections.ConnectionChanges.{closed_connection}
use Rattle.world_base.proofs.of_node_core.Changes.{named_there, named_nowhere}
use Rattle.world_base.proofs.node_core.stepping_node.SteppingNode.close_named.Goals as goal

pub returns-in-Some : goal.returns-in-Some
returns-in-Some c =
    rw (← c.self.view_is) (named_there c.args.name closed_connection _ c.index_of.result c.in-Some.index c.index_mut.result.now _
    (rw (← c.self.view_is) at c.index_of.ensures) c.in-Some.is c.index_mut.ensures.value c.close.ensures)

pub returns-in_default : goal.returns-in_default
returns-in_default c = named_nowhere c.args.name closed_connection _ c.index_of.result c.index_of.ensures c.in_default.is
