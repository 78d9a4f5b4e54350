use Rattle.headline.proofs.of_node_moves.StepsMove.{node_calls_are_moves}
use Rattle.headline.proofs.node_moves.theorems.node_calls_are_moves.Goals as goal

pub returns : goal.returns
returns c = node_calls_are_moves
