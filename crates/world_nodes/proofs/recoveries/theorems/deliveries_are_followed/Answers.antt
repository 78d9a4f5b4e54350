use Rattle.world_nodes.proofs.of_recoveries.NodesFollow.{deliveries_are_followed}
use Rattle.world_nodes.proofs.recoveries.theorems.deliveries_are_followed.Goals as goal

pub returns : goal.returns
returns c = deliveries_are_followed
