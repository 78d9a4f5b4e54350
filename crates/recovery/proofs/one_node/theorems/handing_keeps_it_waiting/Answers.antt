use Rattle.recovery.proofs.of_one_node.AnswerAwaited.{handing_keeps_it_waiting}
use Rattle.recovery.proofs.one_node.theorems.handing_keeps_it_waiting.Goals as goal

pub returns : goal.returns
returns c = handing_keeps_it_waiting
