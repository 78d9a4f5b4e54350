use Rattle.broker_spec.proofs.NothingWaits.{nothing_waits_in_vain}
use Rattle.broker_spec.proofs.theorems.nothing_waits_in_vain.Goals as goal

pub returns : goal.returns
returns c = nothing_waits_in_vain
