use Rattle.broker_base.proofs.of_rows.publications.AnswersOfGranted.{answers_of_granted}
use Rattle.broker_base.proofs.rows.theorems.answers_are_of_granted_rows.Goals as goal

pub returns : goal.returns
returns c = answers_of_granted
