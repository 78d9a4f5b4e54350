use Rattle.headline.proofs.of_packet_world.WorldsExact.{packet_worlds_are_exact}
use Rattle.headline.proofs.packet_world.theorems.packet_worlds_are_exact.Goals as goal

pub returns : goal.returns
returns c = packet_worlds_are_exact
