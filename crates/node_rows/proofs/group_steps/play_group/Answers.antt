use Rattle.std.proofs.Common.{subst}
use Rattle.std.proofs.lemmas.List.{take_rest}
use Rattle.rows.specs.Playing.{Agrees}
use Rattle.node_rows.specs.GroupSteps.{StepDoes}
use Rattle.node_rows.proofs.GroupStepAnswers.{group_agrees}
use Rattle.node_rows.proofs.group_steps.play_group.Goals as goal

pub returns-in-Ok : goal.returns-in-Ok
returns-in-Ok c = λ agrees.
    group_agrees c.args.steps.now c.first-item.result c.in-Ok.group c.in-len1-up.len_at_least c.first-item.is c.in-Ok.ensures
    (subst (λ lines. Agrees StepDoes (record { group = c.in-Ok.group }) lines) (take_rest c.args.steps.now 1)
    (c.play_opened.ensures agrees))
