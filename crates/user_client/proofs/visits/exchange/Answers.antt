use Rattle.std.proofs.Common.{[]}
use Rattle.user_client.proofs.LossFollows.{lost_later}
use Rattle.user_client.proofs.TracesJoin.{traces_follow_ok}
use Rattle.user_client.proofs.visits.exchange.Goals as goal

pub returns-in-Some : goal.returns-in-Some
returns-in-Some g c = record {
  trace = traces_follow_ok c.receive.new.self [] c.receive.result c.send.ensures.trace c.receive.ensures.trace;
  ended = lost_later c.receive.new.self c.receive.result c.send.ensures.trace c.receive.ensures.ended;
}
