use Rattle.agreement.proofs.of_cut_logs.TakenStands.{taken_stand_at_once}
use Rattle.agreement.proofs.cut_logs.theorems.taken_stand_at_once.Goals as goal

pub returns : goal.returns
returns g c =
    taken_stand_at_once g.M.Machine.rules
