use Rattle.headline.proofs.of_byte_world.NodesHoused.{ports_have_pipes}
use Rattle.headline.proofs.byte_world.node_theorems.ports_have_pipes.Goals as goal

pub returns : goal.returns
returns c = ports_have_pipes
