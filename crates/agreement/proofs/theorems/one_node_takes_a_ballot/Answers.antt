use Rattle.agreement.proofs.Agreed.OneNodeTakes.{one_node_takes_a_ballot}
use Rattle.agreement.proofs.theorems.one_node_takes_a_ballot.Goals as goal

pub returns : goal.returns
returns g c =
    one_node_takes_a_ballot g.M.Machine.rules
