use Rattle.headline.proofs.of_byte_world.PipesInOrder.{pipes_carry_in_order}
use Rattle.headline.proofs.byte_world.theorems.pipes_carry_in_order.Goals as goal

pub returns : goal.returns
returns c = pipes_carry_in_order
