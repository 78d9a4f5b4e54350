use Rattle.lists.proofs.Prefixes.{prefix_then}
use Rattle.lists.proofs.theorems.prefixes_join.Goals as goal

pub returns : goal.returns
returns g c xs ys zs = prefix_then
