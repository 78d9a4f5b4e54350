use Rattle.world_nodes.proofs.of_recoveries.ClientAnswered.{sole_member_answers_the_client}
use Rattle.world_nodes.proofs.recoveries.theorems.sole_member_answers_the_client.Goals as goal

pub returns : goal.returns
returns c = sole_member_answers_the_client
