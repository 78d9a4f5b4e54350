use Rattle.session_base.proofs.AnswersByQoS as answers
use Rattle.session_base.proofs.theorems.answers_fit_the_qos.Goals as goal

pub returns : goal.returns
returns c = answers.answers_fit_the_qos
