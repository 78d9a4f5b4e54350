use Rattle.broker_base.proofs.of_rows.StartSteps.{start_step}
use Rattle.broker_base.proofs.rows.connect_theorems.start_steps.Goals as goal

pub returns : goal.returns
returns c = start_step
