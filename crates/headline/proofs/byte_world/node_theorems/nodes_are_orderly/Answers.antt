use Rattle.headline.proofs.of_byte_world.NodesHoused.{nodes_are_orderly}
use Rattle.headline.proofs.byte_world.node_theorems.nodes_are_orderly.Goals as goal

pub returns : goal.returns
returns c = nodes_are_orderly
