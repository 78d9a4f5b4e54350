use Rattle.std.proofs.Common.{ap, sym, ◌∙◌}
use Rattle.ballot_base.specs.Replica.{CountedReplica}
use Rattle.ballot.proofs.TicksTaken.{told_ticks, silent_ticks}
use Rattle.ballot.proofs.replica.Replica.send_repeats.Goals as goal

pub returns-in-Backup : goal.returns-in-Backup
returns-in-Backup g c =
    silent_ticks g.row.M-Output.Denot c.args.self.now.state c.args.self.now.state.role _
    (ap (λ (z : CountedReplica _ _). z.state.role) (sym c.self.view_is) ∙ c.in-Backup.is)

pub returns-in-Active : goal.returns-in-Active
returns-in-Active g c =
    told_ticks g.row.M-Output.Denot c.args.self.now.state c.args.self.now.state.role _ _ _
    (ap (λ (z : CountedReplica _ _). z.state.role) (sym c.self.view_is) ∙ c.in-Active.is) c.send_missing.ensures
