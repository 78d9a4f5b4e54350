use Rattle.std.proofs.Common.{[], refl, sym, ◌∙◌}
use Rattle.ballot_base.proofs.ChangeRows.{on_superseded-stays}
use Rattle.ballot.proofs.MessagesTaken.{went_same}
use Rattle.ballot.proofs.ChangesTaken.{superseded_left}
use Rattle.ballot.proofs.replica.Replica.on_superseded.Goals as goal

pub returns-then-installs-clause-step : goal.returns-then-installs-clause-step
returns-then-installs-clause-step g c =
    superseded_left _ c.args.self.now _ c.args.ballot (sym c.installs.ensures ∙ c.if-installs.true) (rw (← c.self.view_is) refl)

pub returns-else-installs-clause-step : goal.returns-else-installs-clause-step
returns-else-installs-clause-step g c =
    went_same _ _ [] (on_superseded-stays _ _ c.args.ballot (sym c.installs.ensures ∙ c.if-installs.false))
