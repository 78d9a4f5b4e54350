use Rattle.world.proofs.UncountedIsExact.{uncounted_is_exact}
use Rattle.world.proofs.theorems.uncounted_is_exact.Goals as goal

pub returns : goal.returns
returns c = uncounted_is_exact
