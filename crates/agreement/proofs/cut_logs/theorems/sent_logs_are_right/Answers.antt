use Rattle.agreement.proofs.of_cut_logs.MomentsAgree.{sent_logs_are_right}
use Rattle.agreement.proofs.cut_logs.theorems.sent_logs_are_right.Goals as goal

pub returns : goal.returns
returns g c =
    sent_logs_are_right g.M.Machine.rules
