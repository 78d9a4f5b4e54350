use Rattle.broker_base.proofs.of_rows.LeavingSteps.{leaving_step, further_connect_step, lost_step}
use Rattle.broker_base.proofs.rows.packet_theorems.leaving_steps.Goals as goal

pub returns : goal.returns
returns c = record { packet = leaving_step; connect = further_connect_step; lost = lost_step }
