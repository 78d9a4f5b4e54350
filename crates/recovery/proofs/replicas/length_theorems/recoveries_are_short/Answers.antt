use Rattle.recovery.proofs.of_replicas.Counted.{recoveries_are_short}
use Rattle.recovery.proofs.replicas.length_theorems.recoveries_are_short.Goals as goal

pub returns : goal.returns
returns c = recoveries_are_short
