use Rattle.lists.proofs.Prefixes.{prefix_either}
use Rattle.lists.proofs.theorems.prefixes_meet.Goals as goal

pub returns : goal.returns
returns g c = prefix_either
