use Rattle.agreement.proofs.Agreed.MomentsAgree.{has_agreed}
use Rattle.agreement.proofs.theorems.has_agreed.Goals as goal

pub returns : goal.returns
returns g c =
    has_agreed g.M.Machine.rules
