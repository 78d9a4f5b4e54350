use Rattle.std.proofs.Common.{refl, sym, ◌∙◌}
use Rattle.broker_rows.proofs.SessionAnswers.{no_thaw_gives, thaw_gives}
use Rattle.broker_rows.proofs.session_steps.thaw.Goals as goal

pub returns-in_ok-only-in-Some : goal.returns-in_ok-only-in-Some
returns-in_ok-only-in-Some c =
    thaw_gives _ _ _ _ _ _ _ c.as_slice.ensures (sym c.in-Some.is ∙ c.in_ok-thawed.ensures)
    c.in_ok-counted-in-Some.ensures c.in_ok-only-in-Some.ensures

pub returns-in_ok-only-in-None : goal.returns-in_ok-only-in-None
returns-in_ok-only-in-None c =
    no_thaw_gives _ _ _ _ _ _ c.as_slice.ensures (sym c.in-None.is ∙ c.in_ok-thawed.ensures)
    c.in_ok-word-in-None.ensures c.in_ok-only-in-None.ensures refl
