use Rattle.headline.proofs.of_node_moves.LossyRead.{losses_propose_in_order}
use Rattle.headline.proofs.node_moves.theorems.losses_propose_in_order.Goals as goal

pub returns : goal.returns
returns c = losses_propose_in_order
