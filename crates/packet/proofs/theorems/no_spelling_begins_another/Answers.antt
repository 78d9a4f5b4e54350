use Rattle.packet.proofs.OneSpelling.{none_begins}
use Rattle.packet.proofs.theorems.no_spelling_begins_another.Goals as goal

pub returns : goal.returns
returns c = none_begins
