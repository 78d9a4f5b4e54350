use Rattle.broker_rows.proofs.IndexAnswers.{unsubscribe_gives}
use Rattle.broker_rows.proofs.index_steps.unsubscribe.Goals as goal

pub returns : goal.returns
returns g c =
    unsubscribe_gives _ _ _ _ _ _ c.clear-was_there.result _ _ c.in_ok-client.ensures c.in_ok-filter.ensures
    c.clear-was_there.ensures.found c.in_ok-yes_or_no.ensures c.in_ok-only.ensures c.clear-was_there.ensures.after
