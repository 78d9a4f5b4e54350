use Rattle.recovery.proofs.of_one_node.AnswerAwaited.{messages_keep_it_waiting}
use Rattle.recovery.proofs.one_node.theorems.messages_keep_it_waiting.Goals as goal

pub returns : goal.returns
returns c = messages_keep_it_waiting
