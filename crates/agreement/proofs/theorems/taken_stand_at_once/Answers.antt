use Rattle.agreement.proofs.Orders.TakenStands.{taken_stand_at_once}
use Rattle.agreement.proofs.theorems.taken_stand_at_once.Goals as goal

pub returns : goal.returns
returns g c =
    taken_stand_at_once g.M.Machine.rules
