use Rattle.headline.proofs.of_node_moves.LossesAreMoves.{losses_are_moves}
use Rattle.headline.proofs.node_moves.theorems.losses_are_moves.Goals as goal

pub returns : goal.returns
returns c = losses_are_moves
