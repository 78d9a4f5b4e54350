use Rattle.headline.proofs.of_node_moves.LossesReported.{each_loss_is_reported}
use Rattle.headline.proofs.node_moves.theorems.each_loss_is_reported.Goals as goal

pub returns : goal.returns
returns c = each_loss_is_reported
