use Rattle.session_base.proofs.AnswersOfClients.{others_change_nothing, second_pubrec}
use Rattle.session_base.proofs.theorems.other_answers_change_nothing.Goals as goal

pub returns : goal.returns
returns c = record { others = others_change_nothing; second = second_pubrec }
