use Rattle.broker_rows.proofs.SessionAnswers.{subscribe_gives}
use Rattle.broker_rows.proofs.session_steps.subscribe.Goals as goal

pub returns-in-Ok : goal.returns-in-Ok
returns-in-Ok c =
    subscribe_gives c.args.session.now c.subscribe.new.self c.args.filter.now c.args.qos.now _ c.in_ok-qos.qos c.new.result.items
    c.in_ok-filter.ensures c.in_ok-qos.ensures c.new.ensures.items c.in-Ok.ensures.ok
