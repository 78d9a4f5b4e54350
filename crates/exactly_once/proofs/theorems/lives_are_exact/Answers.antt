use Rattle.broker_spec.proofs.PacketOfNobody.{window_is_steady}
use Rattle.broker_spec.specs.Commands.{usual_limits}
use Rattle.exactly_once.proofs.sessions.LivesExact.{lives_exact}
use Rattle.exactly_once.proofs.theorems.lives_are_exact.Goals as goal

pub returns : goal.returns
returns c = record { usual = lives_exact usual_limits window_is_steady.0; steady = lives_exact }
