use Rattle.recovery.proofs.of_replicas.CutGroupsLed.{cut_groups_have_recoveries}
use Rattle.recovery.proofs.replicas.cut_theorems.cut_groups_have_recoveries.Goals as goal

pub returns : goal.returns
returns g c =
    cut_groups_have_recoveries g.M.Machine.rules
