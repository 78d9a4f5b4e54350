use Rattle.headline.proofs.of_packet_world.GroupServes.{groups_serve}
use Rattle.headline.proofs.packet_world.theorems.groups_serve.Goals as goal

pub returns : goal.returns
returns c = groups_serve
