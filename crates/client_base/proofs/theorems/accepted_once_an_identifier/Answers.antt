use Rattle.client_base.proofs.Received.{accepts_unless_kept, stays_kept}
use Rattle.client_base.proofs.theorems.accepted_once_an_identifier.Goals as goal

pub returns : goal.returns
returns c = record { accepts = accepts_unless_kept; stays = stays_kept }
