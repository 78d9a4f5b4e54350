use Rattle.recovery.proofs.of_one_client.ConnackServed.{connack_serves}
use Rattle.recovery.proofs.one_client.theorems.connack_serves.Goals as goal

pub returns : goal.returns
returns c = connack_serves
