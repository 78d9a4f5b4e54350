use Rattle.std.proofs.Common.{ap, ap₂, sym, subst, ◌∙◌}
use Rattle.std.proofs.lemmas.List.{take_rest}
use Rattle.rows.specs.Playing.{Agrees, after_answers, answers_at, are_answers}
use Rattle.rows.proofs.Compared.{step_more}
use Rattle.rows.proofs.playing.+play_steps.Goals as goal

pub returns-else-not-are_answers : goal.returns-else-not-are_answers
returns-else-not-are_answers g t c agrees =
    step_more g.T.Tested.Does c.args.tested.now c.step.new.self c.args.lines.now c.step-item.result _ c.in-Ok.answers.items c.in-len1-up.len_at_least
    c.step-item.is c.in-Ok.ensures
    (ap₂ are_answers (sym c.as_slice.ensures.value) (ap answers_at (sym (take_rest c.args.lines.now 1)) ∙ sym c.split_answers.ensures.answers)
    ∙ sym c.if-not-are_answers.ensures)
    (subst (λ lines. Agrees g.T.Tested.Does c.step.new.self lines)
    (c.split_answers.ensures.rest ∙ ap after_answers (take_rest c.args.lines.now 1)) (c.play_steps.ensures agrees))
