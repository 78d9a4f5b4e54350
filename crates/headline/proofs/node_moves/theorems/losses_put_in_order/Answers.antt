use Rattle.headline.proofs.of_node_moves.LossyShuts.{losses_put_in_order}
use Rattle.headline.proofs.node_moves.theorems.losses_put_in_order.Goals as goal

pub returns : goal.returns
returns c = losses_put_in_order
