use Rattle.broker_base.proofs.of_rows.PacketSteps.{handled_step, pingreq_step}
use Rattle.broker_base.proofs.rows.packet_theorems.handled_packet_steps.Goals as goal

pub returns : goal.returns
returns c = record { handled = handled_step; pingreq = pingreq_step }
