use Rattle.streams.proofs.CountsAll.{counts_all}
use Rattle.streams.proofs.theorems.taps_count_all.Goals as goal

pub returns : goal.returns
returns c = counts_all
