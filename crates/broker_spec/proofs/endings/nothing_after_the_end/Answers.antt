use Rattle.broker_spec.proofs.NothingAfterTheEnd as lemmas
use Rattle.broker_spec.proofs.endings.nothing_after_the_end.Goals as goal

pub returns : goal.returns
returns c = lemmas.nothing_after_the_end
