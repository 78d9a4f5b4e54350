use Rattle.broker_base.proofs.of_form.ThawedAgain.{thawed_is_frozen}
use Rattle.broker_base.proofs.form.theorems.thawed_is_frozen.Goals as goal

pub returns : goal.returns
returns c = thawed_is_frozen
