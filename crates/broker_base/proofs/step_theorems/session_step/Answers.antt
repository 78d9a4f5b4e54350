use Rattle.broker_base.proofs.PastsAtRest.{kept_step}
use Rattle.broker_base.proofs.step_theorems.session_step.Goals as goal

pub returns : goal.returns
returns c = kept_step
