use Rattle.agreement.proofs.of_cut_logs.MomentsAgree.{has_agreed}
use Rattle.agreement.proofs.cut_logs.theorems.has_agreed.Goals as goal

pub returns : goal.returns
returns g c =
    has_agreed g.M.Machine.rules
