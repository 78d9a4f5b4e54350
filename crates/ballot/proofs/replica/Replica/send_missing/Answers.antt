use Rattle.std.proofs.Common.{refl}
use Rattle.ballot.proofs.TicksTaken.{told}
use Rattle.ballot.proofs.replica.Replica.send_missing.Goals as goal

pub returns : goal.returns
returns g c =
    rw (← c.self.view_is)
    (told g.row.M-Output.Denot c.self.inside.id c.self.inside.joined c.self.inside.committed c.self.inside.log c.self.inside.log _ _ _ _ _ _ c.send_after-after.result c.send_commits-commits.result
    refl c.deref.ensures.value c.deref-2.ensures.value c.send_after-after.ensures c.send_commits-commits.ensures)
