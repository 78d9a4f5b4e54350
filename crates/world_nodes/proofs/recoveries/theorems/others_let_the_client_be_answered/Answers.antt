use Rattle.world_nodes.proofs.of_recoveries.ClientAnswered.{others_let_the_client_be_answered}
use Rattle.world_nodes.proofs.recoveries.theorems.others_let_the_client_be_answered.Goals as goal

pub returns : goal.returns
returns c = others_let_the_client_be_answered
