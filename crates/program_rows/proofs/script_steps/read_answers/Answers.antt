use Rattle.std.proofs.lemmas.Result.{IfOk-at_ok, IfErr-at_err}
use Rattle.script.specs.Scripts.{IsScript, Refuses, lines_of}
use Rattle.program_rows.proofs.ScriptFaults.{is_read, is_refused}
use Rattle.program_rows.proofs.script_steps.read_answers.Goals as goal

pub returns-in-Ok : goal.returns-in-Ok
returns-in-Ok c =
    is_read c.args.text.now c.in-Ok.script c.in_ok-script_answers-in-Ok.field-0.items
    (IfOk-at_ok (IsScript (lines_of c.args.text.now)) c.in-Ok.is c.read.ensures.script)
    c.in_ok-script_answers-in-Ok.ensures

pub returns : goal.returns
returns c =
    is_refused c.args.text.now c.in-Err.fault c.in_ok-number-in-Err.number c.in_ok-counted-in-Err.field-0
    c.in_ok-only-in-Err.field-0.items
    (IfErr-at_err (Refuses (lines_of c.args.text.now)) c.in-Err.is c.read.ensures.refused) c.in_ok-number-in-Err.ensures
    c.in_ok-counted-in-Err.ensures c.in_ok-only-in-Err.ensures
