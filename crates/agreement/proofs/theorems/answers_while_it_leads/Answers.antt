use Rattle.agreement.proofs.Given.WhileItLeads.{answers_while_it_leads}
use Rattle.agreement.proofs.theorems.answers_while_it_leads.Goals as goal

pub returns : goal.returns
returns g c =
    answers_while_it_leads g.M.Machine.rules
