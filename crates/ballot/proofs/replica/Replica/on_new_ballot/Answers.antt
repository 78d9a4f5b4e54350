use Rattle.std.proofs.Common.{refl}
use Rattle.ballot_base.proofs.ChangeRows.{on_new_ballot-stays}
use Rattle.ballot.proofs.MessagesTaken.{went_same}
use Rattle.ballot.proofs.ChangesTaken.{new_ballot_taken}
use Rattle.ballot.proofs.replica.Replica.on_new_ballot.Goals as goal

pub returns-then-ballot-self-clause-step : goal.returns-then-ballot-self-clause-step
returns-then-ballot-self-clause-step g c =
    rw (← c.self.view_is) (went_same _ _ _ (on_new_ballot-stays _ _ c.args.ballot c.args.members c.args.previous c.args.previous_members
    c.if-ballot-self.true))

pub returns-clause-step : goal.returns-clause-step
returns-clause-step g c =
    rw (← c.self.view_is)
    (new_ballot_taken _ _ _ c.args.ballot c.args.members c.args.previous c.args.previous_members c.as_slice-receivers.result.now
    c.clear.new.self.items c.clear-2.new.self.items _ _ c.send_joins.result
    c.if-ballot-self.false c.as_slice-receivers.ensures c.clear.ensures.items c.clear-2.ensures.items
    c.send_joins.ensures refl refl)
