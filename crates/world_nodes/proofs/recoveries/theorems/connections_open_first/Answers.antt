use Rattle.world_nodes.proofs.of_recoveries.OpensFirst.{connections_open_first}
use Rattle.world_nodes.proofs.recoveries.theorems.connections_open_first.Goals as goal

pub returns : goal.returns
returns c = connections_open_first
