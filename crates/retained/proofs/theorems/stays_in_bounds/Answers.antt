use Rattle.retained.proofs.LastPut.{stays_in_bounds}
use Rattle.retained.proofs.theorems.stays_in_bounds.Goals as goal

pub returns : goal.returns
returns c = stays_in_bounds
