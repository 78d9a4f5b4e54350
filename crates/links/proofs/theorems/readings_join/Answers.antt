use Rattle.links.proofs.Handing.{readings_join}
use Rattle.links.proofs.theorems.readings_join.Goals as goal

pub returns : goal.returns
returns c = readings_join
