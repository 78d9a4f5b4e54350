use Rattle.agreement.proofs.of_cut_logs.MomentsAgree.{logs_are_cut_right}
use Rattle.agreement.proofs.cut_logs.theorems.logs_are_cut_right.Goals as goal

pub returns : goal.returns
returns g c =
    logs_are_cut_right g.M.Machine.rules
