use Rattle.packet.proofs.MoreBytes.{fronts_unfinished}
use Rattle.packet.proofs.theorems.fronts_are_unfinished.Goals as goal

pub returns : goal.returns
returns c = fronts_unfinished
