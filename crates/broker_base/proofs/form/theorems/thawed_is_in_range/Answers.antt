use Rattle.broker_base.proofs.of_form.Thawing.{thawed_is_in_range}
use Rattle.broker_base.proofs.form.theorems.thawed_is_in_range.Goals as goal

pub returns : goal.returns
returns c = thawed_is_in_range
