use Rattle.one_client.proofs.AcceptedBeside.{accepts_beside_a_stranger}
use Rattle.one_client.proofs.rows.accepts_beside_a_stranger.Goals as goal

pub returns : goal.returns
returns c = accepts_beside_a_stranger
