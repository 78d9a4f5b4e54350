use Rattle.headline.proofs.WorldsExact.{worlds_are_exact}
use Rattle.headline.proofs.theorems.worlds_are_exact.Goals as goal

pub returns : goal.returns
returns c = worlds_are_exact
