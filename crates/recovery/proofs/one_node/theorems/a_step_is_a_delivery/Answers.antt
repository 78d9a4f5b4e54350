use Rattle.recovery.proofs.of_one_node.OneDelivery.{a_step_is_a_delivery}
use Rattle.recovery.proofs.one_node.theorems.a_step_is_a_delivery.Goals as goal

pub returns : goal.returns
returns c = a_step_is_a_delivery
