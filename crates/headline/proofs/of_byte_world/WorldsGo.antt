-- What continues in a world continues in its group, and there connections carry in order.
use Rattle.headline.proofs.of_node_group.CarriedInOrder.{groups_carry_in_order}
use Rattle.headline.specs.byte_world.Carried.{WorldsCarryInOrder, trace_of}

pub worlds_carry_in_order : WorldsCarryInOrder
worlds_carry_in_order nodes config cs w trail = groups_carry_in_order nodes config w.group (trace_of trail)
