use Rattle.agreement.proofs.of_cut_logs.MomentsAgree.{snapshots_are_read}
use Rattle.agreement.proofs.cut_logs.theorems.snapshots_are_read.Goals as goal

pub returns : goal.returns
returns g c =
    snapshots_are_read g.M.Machine.rules
