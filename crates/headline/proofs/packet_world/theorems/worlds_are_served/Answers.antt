use Rattle.headline.proofs.of_packet_world.Serving.{worlds_are_served}
use Rattle.headline.proofs.packet_world.theorems.worlds_are_served.Goals as goal

pub returns : goal.returns
returns c = worlds_are_served
