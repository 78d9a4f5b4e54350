use Rattle.broker_spec.proofs.AnswersAreAddressed.{answers_are_addressed}
use Rattle.broker_spec.proofs.theorems.answers_are_addressed.Goals as goal

pub returns : goal.returns
returns c = answers_are_addressed
