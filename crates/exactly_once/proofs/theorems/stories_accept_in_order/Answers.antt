use Rattle.broker_spec.proofs.PacketOfNobody.{window_is_steady}
use Rattle.broker_spec.specs.Commands.{usual_limits}
use Rattle.exactly_once.proofs.keeping.StoryTrace.{told_stories_accept}
use Rattle.exactly_once.proofs.theorems.stories_accept_in_order.Goals as goal

pub returns : goal.returns
returns c = record { usual = told_stories_accept usual_limits window_is_steady.0; steady = told_stories_accept }
