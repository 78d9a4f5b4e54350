use Rattle.recovery.proofs.of_one_node.AnswerAwaited.{first_awaits_connect}
use Rattle.recovery.proofs.one_node.theorems.first_awaits_connect.Goals as goal

pub returns : goal.returns
returns c = first_awaits_connect
