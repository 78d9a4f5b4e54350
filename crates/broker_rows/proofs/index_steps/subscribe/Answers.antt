use Rattle.broker_rows.proofs.IndexAnswers.{subscribe_gives}
use Rattle.broker_rows.proofs.index_steps.subscribe.Goals as goal

pub returns-in-Ok : goal.returns-in-Ok
returns-in-Ok g c =
    subscribe_gives _ _ _ _ _ _ _ c.in_ok-qos.qos _ c.in_ok-client.ensures c.in_ok-filter.ensures c.in_ok-qos.ensures
    c.new.ensures.items c.in-Ok.ensures.ok
