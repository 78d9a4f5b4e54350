use Rattle.recovery.proofs.of_replicas.CutGroupsAnswer.{cut_groups_answer}
use Rattle.recovery.proofs.replicas.cut_theorems.cut_groups_answer.Goals as goal

pub returns : goal.returns
returns g c =
    cut_groups_answer g.M.Machine.rules
