use Rattle.broker_rows.proofs.SessionAnswers.{unsubscribe_gives}
use Rattle.broker_rows.proofs.session_steps.unsubscribe.Goals as goal

pub returns : goal.returns
returns c = unsubscribe_gives _ _ _ _ _ c.in_ok-filter.ensures c.new.ensures.items c.unsubscribe.ensures
