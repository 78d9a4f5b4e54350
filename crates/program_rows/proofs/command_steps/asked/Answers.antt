use Rattle.std.proofs.Common.{sym, ◌∙◌}
use Rattle.program_rows.proofs.CommandAnswers.{shows_step}
use Rattle.program_rows.proofs.command_steps.asked.Goals as goal

pub returns-in_ok-only-2 : goal.returns-in_ok-only-2
returns-in_ok-only-2 c =
    shows_step c.args.word.now c.args.fields.now c.in_ok-yes_or_no.field-0 c.in_ok-only-2.field-0.items
    c.in_ok-is_shown.field-0 (sym c.is-else-is.ensures ∙ c.if-is-2.true) c.in_ok-yes_or_no.ensures c.in_ok-only-2.ensures
