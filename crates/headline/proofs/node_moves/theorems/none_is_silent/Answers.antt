use Rattle.headline.proofs.of_node_moves.SilentEnd.{none_is_silent}
use Rattle.headline.proofs.node_moves.theorems.none_is_silent.Goals as goal

pub returns : goal.returns
returns c = none_is_silent
