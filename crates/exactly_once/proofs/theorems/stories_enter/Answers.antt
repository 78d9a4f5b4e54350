use Rattle.exactly_once.proofs.Entering.{entering}
use Rattle.exactly_once.proofs.theorems.stories_enter.Goals as goal

pub returns : goal.returns
returns c = entering
