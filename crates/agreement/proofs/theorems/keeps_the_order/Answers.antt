use Rattle.agreement.proofs.Agreed.MomentsOrder.{keeps_the_order}
use Rattle.agreement.proofs.theorems.keeps_the_order.Goals as goal

pub returns : goal.returns
returns g c =
    keeps_the_order g.M.Machine.rules
