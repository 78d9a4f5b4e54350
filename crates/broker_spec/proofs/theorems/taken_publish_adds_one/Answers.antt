use Rattle.broker_spec.proofs.TakenPublishAddsOne.{taken_publish_adds_one}
use Rattle.broker_spec.proofs.theorems.taken_publish_adds_one.Goals as goal

pub returns : goal.returns
returns c = taken_publish_adds_one
