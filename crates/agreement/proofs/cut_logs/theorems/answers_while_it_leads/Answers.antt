use Rattle.agreement.proofs.of_cut_logs.Orders.{answers_while_it_leads}
use Rattle.agreement.proofs.cut_logs.theorems.answers_while_it_leads.Goals as goal

pub returns : goal.returns
returns g c =
    answers_while_it_leads g.M.Machine.rules
