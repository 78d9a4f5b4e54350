use Rattle.ballot.proofs.Heeding.{heeds_exactly}
use Rattle.ballot.proofs.replica.Replica.heeds.Goals as goal

pub returns : goal.returns
returns g c =
    heeds_exactly g.M.Machine.rules c.args.self.now.state
    c.args.message.now.from c.args.message.now.body c.is_moved_by.result c.is_moved_by.ensures
