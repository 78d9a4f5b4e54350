use Rattle.headline.proofs.of_byte_world.NodeCallsCarry.{groups_do_each_node_call}
use Rattle.headline.proofs.byte_world.theorems.groups_do_each_node_call.Goals as goal

pub returns : goal.returns
returns c = groups_do_each_node_call
