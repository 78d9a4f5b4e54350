use Rattle.recovery.proofs.of_one_node.AnswerAlone.{answer_alone_is_put_out}
use Rattle.recovery.proofs.one_node.theorems.answer_alone_is_put_out.Goals as goal

pub returns : goal.returns
returns c = answer_alone_is_put_out
