use Rattle.world_base.proofs.of_node_core.EndsRun.{ran_proposes}
use Rattle.world_base.proofs.node_core.stepping_node.SteppingNode.expel.Goals as goal

pub returns-clause-lossy : goal.returns-clause-lossy
returns-clause-lossy c = ran_proposes _ c.propose.result _ _ _ _ c.propose.ensures.lossy

pub returns-clause-quiet : goal.returns-clause-quiet
returns-clause-quiet c = c.propose.ensures.quiet
