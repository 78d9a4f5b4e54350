use Rattle.headline.proofs.of_node_moves.LossyRead.{losses_are_taken}
use Rattle.headline.proofs.node_moves.theorems.losses_are_taken.Goals as goal

pub returns : goal.returns
returns c = losses_are_taken
