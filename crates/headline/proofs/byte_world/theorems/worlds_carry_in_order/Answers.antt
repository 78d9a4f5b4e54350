use Rattle.headline.proofs.of_byte_world.WorldsGo.{worlds_carry_in_order}
use Rattle.headline.proofs.byte_world.theorems.worlds_carry_in_order.Goals as goal

pub returns : goal.returns
returns c = worlds_carry_in_order
