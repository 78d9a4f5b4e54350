use Rattle.broker_spec.proofs.PacketOfNobody.{window_is_steady}
use Rattle.broker_spec.specs.Commands.{usual_limits}
use Rattle.exactly_once.proofs.StoriesExact.{told_stories_publish_once}
use Rattle.exactly_once.proofs.theorems.stories_publish_once.Goals as goal

pub returns : goal.returns
returns c = record { usual = told_stories_publish_once usual_limits window_is_steady.0; steady = told_stories_publish_once }
