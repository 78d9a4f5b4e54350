use Rattle.links.proofs.of_seal.Memberships.{of_one_cluster}
use Rattle.links.proofs.seal.theorems.ends_are_of_one_cluster.Goals as goal

pub returns : goal.returns
returns c = of_one_cluster
