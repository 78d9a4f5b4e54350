use Rattle.broker_spec.proofs.EntersWhereTaken as lemmas
use Rattle.broker_spec.proofs.endings.enters_where_taken.Goals as goal

pub returns : goal.returns
returns c = lemmas.enters_where_taken
