use Rattle.agreement.proofs.of_cut_logs.Orders.{keeps_the_order}
use Rattle.agreement.proofs.cut_logs.theorems.keeps_the_order.Goals as goal

pub returns : goal.returns
returns g c =
    keeps_the_order g.M.Machine.rules
