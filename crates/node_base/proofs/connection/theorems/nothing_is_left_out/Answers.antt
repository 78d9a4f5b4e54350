use Rattle.node_base.proofs.of_connection.WritesJoin.{nothing_left_out}
use Rattle.node_base.proofs.connection.theorems.nothing_is_left_out.Goals as goal

pub returns : goal.returns
returns g c = nothing_left_out g.T.Tap.hands
