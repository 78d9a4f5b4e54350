use Rattle.broker_base.proofs.of_form.Thawing.{frozen_is_thawed, frozen_before_is_thawed}
use Rattle.broker_base.proofs.form.theorems.frozen_is_thawed.Goals as goal

pub returns : goal.returns
returns c = record { now = frozen_is_thawed; before = frozen_before_is_thawed }
