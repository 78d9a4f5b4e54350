use Rattle.broker_spec.proofs.EntersAsPublished as lemmas
use Rattle.broker_spec.proofs.endings.enters_as_published.Goals as goal

pub returns : goal.returns
returns c = lemmas.enters_as_published
