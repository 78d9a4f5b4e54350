use Rattle.node.proofs.HandedInRun.{hand_overs_add_up}
use Rattle.node.proofs.theorems.hand_overs_add_up.Goals as goal

pub returns : goal.returns
returns c = hand_overs_add_up
