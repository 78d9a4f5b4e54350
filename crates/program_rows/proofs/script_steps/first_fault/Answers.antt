use Rattle.std.proofs.lemmas.Result.{IfOk-at_ok, IfErr-at_err}
use Rattle.script.specs.Scripts.{IsScript, Refuses, lines_of}
use Rattle.program_rows.proofs.ScriptFaults.{has_none, has_one}
use Rattle.program_rows.proofs.script_steps.first_fault.Goals as goal

pub returns-in-Ok : goal.returns-in-Ok
returns-in-Ok c =
    has_none c.args.text.now c.in-Ok.field-0
    (IfOk-at_ok (IsScript (lines_of c.args.text.now)) c.in-Ok.is c.read.ensures.script)

pub returns : goal.returns
returns c =
    has_one c.args.text.now c.in-Err.fault c.in_ok-line_of-in-Err.field-0
    (IfErr-at_err (Refuses (lines_of c.args.text.now)) c.in-Err.is c.read.ensures.refused)
    c.in_ok-line_of-in-Err.ensures
