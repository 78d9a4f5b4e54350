use Rattle.std.proofs.Common.{sym, ◌∙◌}
use Rattle.play.proofs.LinesAppended.{happened, no_event}
use Rattle.play.proofs.played_world.PlayedWorld.do_line.Goals as goal

pub returns-in-None-clause-comes : goal.returns-in-None-clause-comes
returns-in-None-clause-comes c = no_event _ _ _ (sym c.in_ok-event.ensures.event ∙ c.in-None.is)

pub returns-in-Some-clause-comes : goal.returns-in-Some-clause-comes
returns-in-Some-clause-comes c =
    happened _ _ _ _ _ (sym c.in_ok-event.ensures.event ∙ c.in-Some.is) c.step.ensures.happens c.step.ensures.group c.step.ensures.reached c.step.ensures.exact
