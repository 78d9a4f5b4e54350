use Rattle.recovery.proofs.of_replicas.Answering.{commands_are_answered}
use Rattle.recovery.proofs.replicas.theorems.commands_are_answered.Goals as goal

pub returns : goal.returns
returns g c =
    commands_are_answered g.M.Machine.rules
