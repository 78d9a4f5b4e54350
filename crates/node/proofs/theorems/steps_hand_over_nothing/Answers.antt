use Rattle.node.proofs.HandedInRun.{steps_hand_over_nothing}
use Rattle.node.proofs.theorems.steps_hand_over_nothing.Goals as goal

pub returns : goal.returns
returns c = steps_hand_over_nothing
