use Rattle.agreement.proofs.of_cut_logs.Orders.{one_node_takes_a_ballot}
use Rattle.agreement.proofs.cut_logs.theorems.one_node_takes_a_ballot.Goals as goal

pub returns : goal.returns
returns g c =
    one_node_takes_a_ballot g.M.Machine.rules
