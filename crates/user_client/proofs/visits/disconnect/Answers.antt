use Rattle.user_client.proofs.TracesJoin.{traces_follow}
use Rattle.user_client.proofs.visits.disconnect.Goals as goal

pub returns-clause-trace : goal.returns-clause-trace
returns-clause-trace g c = traces_follow c.disconnect.ensures.trace c.send.ensures.trace
