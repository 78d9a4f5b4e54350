use Rattle.std.proofs.Common.{ap}
use Rattle.ballot_base.specs.Protocol.{received}
use Rattle.ballot.proofs.MessagesTaken.{went_same}
use Rattle.ballot.proofs.replica.Replica.on_body.Goals as goal

pub returns-in-Activate-clause-step : goal.returns-in-Activate-clause-step
returns-in-Activate-clause-step g c =
    let steps = g.M.Machine.rules in
    went_same _ _ _ (ap (received steps c.args.self.now.state c.args.from) c.in-Activate.is)
