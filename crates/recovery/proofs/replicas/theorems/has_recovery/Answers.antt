use Rattle.recovery.proofs.of_replicas.HasRecovery.{has_recovery}
use Rattle.recovery.proofs.replicas.theorems.has_recovery.Goals as goal

pub returns : goal.returns
returns g c =
    has_recovery g.M.Machine.rules
