use Rattle.broker_base.proofs.of_form.States.{stays_in_range}
use Rattle.broker_base.proofs.form.theorems.states_stay_in_range.Goals as goal

pub returns : goal.returns
returns c = stays_in_range
