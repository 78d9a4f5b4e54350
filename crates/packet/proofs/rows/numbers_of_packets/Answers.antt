use Rattle.std.proofs.Common.{refl}
use Rattle.packet.proofs.rows.numbers_of_packets.Goals as goal

pub returns : goal.returns
returns c = refl
