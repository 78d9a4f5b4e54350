use Rattle.world_nodes.proofs.of_recoveries.WelcomedKept.{welcomed_are_kept}
use Rattle.world_nodes.proofs.recoveries.theorems.welcomed_are_kept.Goals as goal

pub returns : goal.returns
returns c = welcomed_are_kept
