use Rattle.agreement.proofs.Agreed.MomentsAgree.{machines_replay}
use Rattle.agreement.proofs.theorems.machines_replay.Goals as goal

pub returns : goal.returns
returns g c =
    machines_replay g.M.Machine.rules
