use Rattle.std.proofs.Common.{refl, sym, ◌∙◌}
use Rattle.ballot_base.proofs.ChangeRows.{on_installed-stays}
use Rattle.ballot.proofs.MessagesTaken.{went_same}
use Rattle.ballot.proofs.ChangesTaken.{installed_noted, installed_last, empty_is, not_empty_is}
use Rattle.ballot.proofs.replica.Replica.on_installed.Goals as goal

pub returns-then-not-waits_for_answer-clause-step : goal.returns-then-not-waits_for_answer-clause-step
returns-then-not-waits_for_answer-clause-step g c =
    went_same _ _ _ (on_installed-stays _ _ c.args.from c.args.ballot (sym c.waits_for_answer.ensures ∙ c.if-not-waits_for_answer.true))

pub returns-then-not-is_empty-clause-step : goal.returns-then-not-is_empty-clause-step
returns-then-not-is_empty-clause-step g c =
    installed_noted _ c.args.self.now _ c.args.from c.args.ballot c.forget.new.members.items _
    (sym c.waits_for_answer.ensures ∙ c.if-not-waits_for_answer.false)
    (rw (← c.self.view_is) c.forget.ensures)
    (not_empty_is _ _ c.is_empty.ensures c.forget.new.members.ok.0 c.if-not-is_empty.true)
    (rw (← c.self.view_is) refl)

pub returns-clause-step : goal.returns-clause-step
returns-clause-step g c =
    rw (← c.self.view_is)
    (installed_last _ _ _ c.args.from c.args.ballot _ c.forget.new.members.items _ _ c.send_one.result
    (rw (← c.self.view_is) at (sym c.waits_for_answer.ensures ∙ c.if-not-waits_for_answer.false))
    c.forget.ensures
    (empty_is _ _ c.is_empty.ensures c.forget.new.members.ok.0 c.if-not-is_empty.false)
    refl refl c.send_one.ensures)
