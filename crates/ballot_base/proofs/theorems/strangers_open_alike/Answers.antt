use Rattle.ballot_base.proofs.Strangers.{strangers_alike}
use Rattle.ballot_base.proofs.theorems.strangers_open_alike.Goals as goal

pub returns : goal.returns
returns g c = strangers_alike g.M.Machine.rules
