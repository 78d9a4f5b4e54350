use Rattle.headline.proofs.of_node_moves.LossyClosed.{losses_put_nothing_on_closed}
use Rattle.headline.proofs.node_moves.theorems.losses_put_nothing_on_closed.Goals as goal

pub returns : goal.returns
returns c = losses_put_nothing_on_closed
