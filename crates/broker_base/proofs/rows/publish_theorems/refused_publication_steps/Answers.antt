use Rattle.broker_base.proofs.of_rows.publications.PublishSteps.{refused_step}
use Rattle.broker_base.proofs.rows.publish_theorems.refused_publication_steps.Goals as goal

pub returns : goal.returns
returns c = refused_step
