use Rattle.world_base.specs.node_connections.ConnectionChanges.{noted_proposed}
use Rattle.world_base.proofs.of_node_core.Changes.{changed_there, changed_nowhere}
use Rattle.world_base.proofs.node_core.stepping_node.SteppingNode.note_proposed_at.Goals as goal

pub returns-in-Some : goal.returns-in-Some
returns-in-Some c =
    rw (← c.self.view_is) (changed_there c.args.port (noted_proposed c.args.keep_alive) _ c.index_at.result c.in-Some.index c.index_mut.result.now _
    (rw (← c.self.view_is) at c.index_at.ensures) c.in-Some.is c.index_mut.ensures.value c.note_proposed.ensures)

pub returns-in_default : goal.returns-in_default
returns-in_default c = changed_nowhere c.args.port (noted_proposed c.args.keep_alive) _ c.index_at.result c.index_at.ensures c.in_default.is
