use Rattle.broker_spec.proofs.CurrentIsLastAccepted.{current_is_last_accepted}
use Rattle.broker_spec.proofs.theorems.current_is_last_accepted.Goals as goal

pub returns : goal.returns
returns c = current_is_last_accepted
