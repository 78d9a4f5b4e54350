use Rattle.recovery.proofs.of_one_node.AnswerAwaited.{handing_keeps_the_connect}
use Rattle.recovery.proofs.one_node.theorems.handing_keeps_the_connect.Goals as goal

pub returns : goal.returns
returns c = handing_keeps_the_connect
