use Rattle.headline.proofs.of_node_group.CarriedInOrder.{groups_carry_in_order}
use Rattle.headline.proofs.node_group.connection_theorems.groups_carry_in_order.Goals as goal

pub returns : goal.returns
returns c = groups_carry_in_order
