use Rattle.packet.proofs.OneSpelling.{has_one}
use Rattle.packet.proofs.theorems.one_spelling.Goals as goal

pub returns : goal.returns
returns c = has_one
