use Rattle.user_client.proofs.TracesJoin.{traces_follow}
use Rattle.user_client.proofs.RefusedFirst.{taken_once}
use Rattle.user_client.proofs.publisher.send_once.Goals as goal

pub returns-clause-trace : goal.returns-clause-trace
returns-clause-trace g c = traces_follow c.in_ok-publish.ensures.trace c.send.ensures.trace

pub returns-clause-taken : goal.returns-clause-taken
returns-clause-taken g c =
    λ done. taken_once g.D.Write.contents c.args.stream.now.device c.send.new.stream.device c.args.publish.now
    c.args.caller.now c.publish.new.self c.in_ok-topic.topic c.in_ok-payload.payload c.in_ok-topic.ensures.cases c.in_ok-payload.ensures.cases
    c.in_ok-publish.ensures.asked (c.in_ok-is_whole.ensures.written (c.progress_of_written.ensures done))
