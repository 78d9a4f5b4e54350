use Rattle.recovery.proofs.of_one_node.AnswerAwaited.{asked_awaits_answer}
use Rattle.recovery.proofs.one_node.theorems.asked_awaits_answer.Goals as goal

pub returns : goal.returns
returns c = asked_awaits_answer
