use Rattle.retained.proofs.LastPut.{last_is_retained}
use Rattle.retained.proofs.theorems.last_is_retained.Goals as goal

pub returns : goal.returns
returns c = last_is_retained
