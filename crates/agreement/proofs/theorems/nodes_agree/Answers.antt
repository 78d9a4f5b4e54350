use Rattle.agreement.proofs.Agreed.MomentsAgree.{nodes_agree}
use Rattle.agreement.proofs.theorems.nodes_agree.Goals as goal

pub returns : goal.returns
returns g c =
    nodes_agree g.M.Machine.rules
