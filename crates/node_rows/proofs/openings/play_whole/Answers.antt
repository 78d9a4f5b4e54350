use Rattle.std.proofs.Common.{subst}
use Rattle.std.proofs.lemmas.List.{take_rest}
use Rattle.rows.specs.Playing.{Agrees}
use Rattle.node_rows.specs.NodeSteps.{StepDoes}
use Rattle.node_rows.proofs.OpeningAnswers.{node_agrees}
use Rattle.node_rows.proofs.openings.play_whole.Goals as goal

pub returns-in-Ok : goal.returns-in-Ok
returns-in-Ok c = λ agrees.
    node_agrees c.args.steps.now c.first-item.result c.in-Ok.core c.in-len1-up.len_at_least c.first-item.is c.in-Ok.ensures
    (subst (λ lines. Agrees StepDoes (record { core = c.in-Ok.core }) lines) (take_rest c.args.steps.now 1)
    (c.play_opened.ensures agrees))
