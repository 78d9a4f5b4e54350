use Rattle.ballot.proofs.Heeding.{speaks_exactly}
use Rattle.ballot.proofs.replica.Replica.speaks.Goals as goal

pub returns : goal.returns
returns g c = speaks_exactly g.row.M-Output.Denot c.args.self.now.state c.args.self.now.state.role c.would_repeat.result c.would_repeat.ensures
