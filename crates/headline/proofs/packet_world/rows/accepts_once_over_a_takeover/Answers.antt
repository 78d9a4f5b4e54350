use Rattle.headline.proofs.of_packet_world.TakeoverRun.{accepts_once}
use Rattle.headline.proofs.packet_world.rows.accepts_once_over_a_takeover.Goals as goal

pub returns : goal.returns
returns c = accepts_once
