use Rattle.exactly_once.proofs.Exact.{runs_are_exact}
use Rattle.exactly_once.proofs.handshake_theorems.runs_are_exact.Goals as goal

pub returns : goal.returns
returns g c = runs_are_exact _
