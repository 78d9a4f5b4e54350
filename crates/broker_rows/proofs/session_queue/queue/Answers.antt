use Rattle.broker_rows.proofs.SessionAnswers.{queue_gives}
use Rattle.broker_rows.proofs.session_queue.queue.Goals as goal

pub returns-in-Ok : goal.returns-in-Ok
returns-in-Ok c =
    queue_gives c.args.session.now c.enqueue.new.self c.args.topic.now c.args.qos.now c.args.payload.now c.in_ok-qos.qos _
    c.new.result.items c.in_ok-publication.ensures c.in_ok-qos.ensures c.new.ensures.items c.in-Ok.ensures.ok
