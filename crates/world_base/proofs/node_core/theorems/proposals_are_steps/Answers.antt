use Rattle.world_base.proofs.of_node_core.ProposalsAreSteps.{proposals_are_steps}
use Rattle.world_base.proofs.node_core.theorems.proposals_are_steps.Goals as goal

pub returns : goal.returns
returns c = proposals_are_steps
