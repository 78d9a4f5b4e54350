use Rattle.exactly_once.proofs.Repeats.{repeats_were_accepted}
use Rattle.exactly_once.proofs.handshake_theorems.repeats_were_accepted.Goals as goal

pub returns : goal.returns
returns g c = repeats_were_accepted _
