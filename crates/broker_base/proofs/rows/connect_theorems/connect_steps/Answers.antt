use Rattle.broker_base.proofs.of_rows.ConnectSteps.{beginning_step, resuming_step}
use Rattle.broker_base.proofs.rows.connect_theorems.connect_steps.Goals as goal

pub returns : goal.returns
returns c = record { begins = beginning_step; resumes = resuming_step }
