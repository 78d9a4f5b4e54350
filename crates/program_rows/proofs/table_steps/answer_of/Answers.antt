use Rattle.std.proofs.Common.{Err, ap, ◌∙◌}
use Rattle.std.proofs.lemmas.Result.{IfOk-at_ok}
use Rattle.command_line.specs.Tables.{IsTableText}
use Rattle.program_rows.proofs.TableAnswers.{is_read, is_refused}
use Rattle.program_rows.proofs.table_steps.answer_of.Goals as goal

pub returns-in-Ok : goal.returns-in-Ok
returns-in-Ok c =
    is_read c.args.text.now c.in-Ok.read c.in_ok-table_fields-in-Ok.field-0
    (IfOk-at_ok (IsTableText c.args.text.now) c.in-Ok.is c.table.ensures.value) c.in_ok-table_fields-in-Ok.ensures

pub returns : goal.returns
returns c =
    is_refused c.args.text.now c.in-Err.fault c.in_ok-refusal-in-Err.field-0
    (λ same. c.table.ensures.shape (c.in-Err.is ∙ ap Err same)) c.in_ok-refusal-in-Err.ensures.only
    c.in_ok-refusal-in-Err.ensures.answer
