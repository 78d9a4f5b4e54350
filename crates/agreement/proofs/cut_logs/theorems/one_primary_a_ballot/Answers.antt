use Rattle.agreement.proofs.of_cut_logs.MomentsAgree.{one_primary_a_ballot}
use Rattle.agreement.proofs.cut_logs.theorems.one_primary_a_ballot.Goals as goal

pub returns : goal.returns
returns g c =
    one_primary_a_ballot g.M.Machine.rules
