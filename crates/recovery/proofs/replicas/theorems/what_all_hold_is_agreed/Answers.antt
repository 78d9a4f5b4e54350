use Rattle.recovery.proofs.of_replicas.AllAgreed.{what_all_hold_is_agreed}
use Rattle.recovery.proofs.replicas.theorems.what_all_hold_is_agreed.Goals as goal

pub returns : goal.returns
returns g c =
    what_all_hold_is_agreed g.M.Machine.rules
