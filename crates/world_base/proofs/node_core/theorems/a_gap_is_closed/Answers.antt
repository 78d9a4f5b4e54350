use Rattle.world_base.proofs.of_node_core.GapsClosed.{a_gap_is_closed}
use Rattle.world_base.proofs.node_core.theorems.a_gap_is_closed.Goals as goal

pub returns : goal.returns
returns c = a_gap_is_closed
