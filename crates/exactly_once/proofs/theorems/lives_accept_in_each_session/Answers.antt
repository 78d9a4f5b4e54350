use Rattle.broker_spec.proofs.PacketOfNobody.{window_is_steady}
use Rattle.broker_spec.specs.Commands.{usual_limits}
use Rattle.exactly_once.proofs.sessions.EachSession.{lives_accept}
use Rattle.exactly_once.proofs.theorems.lives_accept_in_each_session.Goals as goal

pub returns : goal.returns
returns c = record { usual = lives_accept usual_limits window_is_steady.0; steady = lives_accept }
