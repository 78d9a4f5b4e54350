use Rattle.std.proofs.Common.{refl, sym, ◌∙◌}
use Rattle.ballot_base.proofs.ChangeRows.{on_join-stays}
use Rattle.ballot.proofs.MessagesTaken.{went_same}
use Rattle.ballot.proofs.ChangesTaken.{join_answered}
use Rattle.ballot.proofs.replica.Replica.on_join.Goals as goal

pub returns-then-not-may_join-clause-step : goal.returns-then-not-may_join-clause-step
returns-then-not-may_join-clause-step g c =
    went_same _ _ _ (on_join-stays _ _ c.args.from c.args.ballot c.args.previous (sym c.may_join.ensures ∙ c.if-not-may_join.true))

pub returns-clause-step : goal.returns-clause-step
returns-clause-step g c =
    join_answered _ c.args.self.now c.leave_for.new.self _ c.args.from c.args.ballot c.args.previous c.self.inside.log _ _ c.send_state-sent.result
    (sym c.may_join.ensures ∙ c.if-not-may_join.false)
    (rw (← c.self.view_is) refl)
    (rw (← c.self.view_is) c.send_state-sent.ensures)
    c.leave_for.ensures
    refl
    refl
