use Rattle.broker_base.proofs.of_rows.ConnectSteps.{full_step}
use Rattle.broker_base.proofs.rows.connect_theorems.full_connect_steps.Goals as goal

pub returns : goal.returns
returns c = full_step
