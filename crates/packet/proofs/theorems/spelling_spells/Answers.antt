use Rattle.packet.proofs.OneSpelling.{spelling_is}
use Rattle.packet.proofs.theorems.spelling_spells.Goals as goal

pub returns : goal.returns
returns c = spelling_is
