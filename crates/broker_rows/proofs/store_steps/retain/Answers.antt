use Rattle.broker_rows.proofs.StoreAnswers.{retain_gives}
use Rattle.broker_rows.proofs.store_steps.retain.Goals as goal

pub returns-in-Ok : goal.returns-in-Ok
returns-in-Ok c =
    retain_gives c.args.store.now c.put.new.self c.args.topic.now c.args.qos.now c.args.payload.now _ _ c.in_ok-qos.qos
    c.new.result.items c.in_ok-topic.ensures c.in_ok-qos.ensures c.in_ok-payload.ensures
    c.new.ensures.items c.in-Ok.ensures.ok
