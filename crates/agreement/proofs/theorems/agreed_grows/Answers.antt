use Rattle.agreement.proofs.Agreed.MomentsGrow.{agreed_grows}
use Rattle.agreement.proofs.theorems.agreed_grows.Goals as goal

pub returns : goal.returns
returns g c =
    agreed_grows g.M.Machine.rules
