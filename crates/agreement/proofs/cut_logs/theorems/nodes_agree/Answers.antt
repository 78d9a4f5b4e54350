use Rattle.agreement.proofs.of_cut_logs.MomentsAgree.{nodes_agree}
use Rattle.agreement.proofs.cut_logs.theorems.nodes_agree.Goals as goal

pub returns : goal.returns
returns g c =
    nodes_agree g.M.Machine.rules
