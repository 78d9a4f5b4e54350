use Rattle.headline.proofs.of_node_moves.StepsMove.{node_calls_hear_at_first}
use Rattle.headline.proofs.node_moves.theorems.node_calls_hear_at_first.Goals as goal

pub returns : goal.returns
returns c = node_calls_hear_at_first
