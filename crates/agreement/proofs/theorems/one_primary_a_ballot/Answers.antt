use Rattle.agreement.proofs.Agreed.OnePrimary.{one_primary_a_ballot}
use Rattle.agreement.proofs.theorems.one_primary_a_ballot.Goals as goal

pub returns : goal.returns
returns g c =
    one_primary_a_ballot g.M.Machine.rules
