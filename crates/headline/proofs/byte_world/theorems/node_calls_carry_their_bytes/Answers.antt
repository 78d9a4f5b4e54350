use Rattle.headline.proofs.of_byte_world.NodeCallsCarry.{node_calls_carry_their_bytes}
use Rattle.headline.proofs.byte_world.theorems.node_calls_carry_their_bytes.Goals as goal

pub returns : goal.returns
returns c = node_calls_carry_their_bytes
