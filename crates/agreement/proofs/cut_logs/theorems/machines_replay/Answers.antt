use Rattle.agreement.proofs.of_cut_logs.MomentsAgree.{machines_replay}
use Rattle.agreement.proofs.cut_logs.theorems.machines_replay.Goals as goal

pub returns : goal.returns
returns g c =
    machines_replay g.M.Machine.rules
