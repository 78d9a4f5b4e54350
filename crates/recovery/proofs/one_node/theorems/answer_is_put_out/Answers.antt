use Rattle.recovery.proofs.of_one_node.AnswerPutOut.{answer_is_put_out}
use Rattle.recovery.proofs.one_node.theorems.answer_is_put_out.Goals as goal

pub returns : goal.returns
returns c = answer_is_put_out
