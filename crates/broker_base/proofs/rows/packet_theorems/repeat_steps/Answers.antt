use Rattle.broker_base.proofs.of_rows.PacketSteps.{repeat_step}
use Rattle.broker_base.proofs.rows.packet_theorems.repeat_steps.Goals as goal

pub returns : goal.returns
returns c = repeat_step
