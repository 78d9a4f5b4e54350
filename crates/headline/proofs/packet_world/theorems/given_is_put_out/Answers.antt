use Rattle.headline.proofs.of_packet_world.PutOut.{given_is_put_out}
use Rattle.headline.proofs.packet_world.theorems.given_is_put_out.Goals as goal

pub returns : goal.returns
returns c = given_is_put_out
