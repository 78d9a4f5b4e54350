use Rattle.std.proofs.Common.{◌∷◌}
use Rattle.node_rows.proofs.ClientStepAnswers.{call_step}
use Rattle.node_rows.proofs.client_steps.called.Goals as goal

pub returns : goal.returns
returns c =
    call_step c.args.core.now c.call.new.core c.call_fields.new.core (c.args.word.now ∷ c.args.values.now) c.in_ok-answer.answer
    c.in_ok-only.field-0.items c.in_ok-ended.ended c.in_ok-ended.ensures c.in_ok-answer.ensures.answer c.in_ok-answer.ensures.taken
    c.in_ok-only.ensures
