use Rattle.broker_base.proofs.of_form.EveryAnswer.{answers_are_spelled}
use Rattle.broker_base.proofs.form.theorems.answers_can_be_spelled.Goals as goal

pub returns : goal.returns
returns c = answers_are_spelled
