use Rattle.headline.proofs.of_packet_world.GroupsPutOut.{groups_put_out}
use Rattle.headline.proofs.packet_world.theorems.groups_put_out.Goals as goal

pub returns : goal.returns
returns c = groups_put_out
