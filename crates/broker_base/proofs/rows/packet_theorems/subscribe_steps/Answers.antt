use Rattle.broker_base.proofs.of_rows.PacketSteps.{subscribe_step}
use Rattle.broker_base.proofs.rows.packet_theorems.subscribe_steps.Goals as goal

pub returns : goal.returns
returns c = subscribe_step
