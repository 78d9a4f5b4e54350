use Rattle.recovery.proofs.of_one_node.ConnectProposed.{connect_is_proposed}
use Rattle.recovery.proofs.one_node.theorems.connect_is_proposed.Goals as goal

pub returns : goal.returns
returns c = connect_is_proposed
