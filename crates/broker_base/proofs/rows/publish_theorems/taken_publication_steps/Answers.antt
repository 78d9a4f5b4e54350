use Rattle.broker_base.proofs.of_rows.publications.PublishSteps.{taken_step}
use Rattle.broker_base.proofs.rows.publish_theorems.taken_publication_steps.Goals as goal

pub returns : goal.returns
returns c = taken_step
