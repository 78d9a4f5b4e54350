use Rattle.cutter.proofs.OneWay.{one-way}
use Rattle.cutter.proofs.theorems.one_cut.Goals as goal

pub returns : goal.returns
returns c = one-way c.no_spelling_begins_another.ensures
