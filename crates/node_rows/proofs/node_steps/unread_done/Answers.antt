use Rattle.std.proofs.Common.{◌==◌, ◌++◌, not, map, ap₂, ◌∙◌}
use Rattle.node_rows.specs.Answers.{lost_answers}
use Rattle.node_rows.specs.NodeAnswers.{effect_fields}
use Rattle.node_rows.proofs.StepAnswers.{unread_gives}
use Rattle.node_rows.proofs.node_steps.unread_done.Goals as goal

pub returns : goal.returns
returns c =
    unread_gives c.args.core.now c.step.new.self c.args.bytes.now c.as_slice.result.now c.in_ok-message.message _ _ _
    c.in_ok-message.ensures c.as_slice.ensures c.new-given.ensures.items c.step.ensures
    (c.in_ok-told_answers.ensures
    ∙ ap₂ (λ given is_lost. map effect_fields given ++ lost_answers is_lost) c.as_slice-2.ensures.value
    (ap₂ (λ after before. not (after == before)) c.losses.ensures c.losses-before.ensures))
