use Rattle.agreement.proofs.of_cut_logs.MomentsAgree.{agreed_grows}
use Rattle.agreement.proofs.cut_logs.theorems.agreed_grows.Goals as goal

pub returns : goal.returns
returns g c =
    agreed_grows g.M.Machine.rules
