use Rattle.headline.proofs.of_node_moves.LossyReads.{losses_read_in_order}
use Rattle.headline.proofs.node_moves.theorems.losses_read_in_order.Goals as goal

pub returns : goal.returns
returns c = losses_read_in_order
