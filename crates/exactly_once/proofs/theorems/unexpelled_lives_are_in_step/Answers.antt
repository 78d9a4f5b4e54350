use Rattle.exactly_once.proofs.sessions.FirstSession.{unexpelled_in_step}
use Rattle.exactly_once.proofs.theorems.unexpelled_lives_are_in_step.Goals as goal

pub returns : goal.returns
returns c = unexpelled_in_step
