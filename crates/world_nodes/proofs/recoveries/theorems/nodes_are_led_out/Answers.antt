use Rattle.world_nodes.proofs.of_recoveries.LedOut.{nodes_are_led_out}
use Rattle.world_nodes.proofs.recoveries.theorems.nodes_are_led_out.Goals as goal

pub returns : goal.returns
returns c = nodes_are_led_out
