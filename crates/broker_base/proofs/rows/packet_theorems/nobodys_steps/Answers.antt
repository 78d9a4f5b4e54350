use Rattle.broker_base.proofs.of_rows.NobodysSteps.{nobodys_packet_step, nobodys_loss_step}
use Rattle.broker_base.proofs.rows.packet_theorems.nobodys_steps.Goals as goal

pub returns : goal.returns
returns c = record { packet = nobodys_packet_step; lost = nobodys_loss_step }
