use Rattle.broker_base.proofs.of_form.EveryAnswer.{lists_are_in_range}
use Rattle.broker_base.proofs.form.theorems.lists_are_in_range.Goals as goal

pub returns : goal.returns
returns c = lists_are_in_range
