use Rattle.broker_spec.proofs.RepeatIsUnreleased.{repeat_is_unreleased}
use Rattle.broker_spec.proofs.theorems.repeat_is_unreleased.Goals as goal

pub returns : goal.returns
returns c = repeat_is_unreleased
