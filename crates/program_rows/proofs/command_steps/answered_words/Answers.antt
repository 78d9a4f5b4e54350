use Rattle.std.proofs.Common.{Err, ap, ◌∙◌}
use Rattle.std.proofs.lemmas.Result.{IfOk-at_ok, IfErr-at_err}
use Rattle.rows.specs.Fields.{texts}
use Rattle.clap.specs.Words.{fault_of, subcommand_of}
use Rattle.command_line.specs.Jobs.{IsJob, IsRefusal}
use Rattle.command_line.specs.Program.{program}
use Rattle.program_rows.proofs.CommandAnswers.{asks_for, asks_for_none}
use Rattle.program_rows.proofs.command_steps.answered_words.Goals as goal

pub returns-in-Ok : goal.returns-in-Ok
returns-in-Ok c =
    asks_for (texts c.args.words.now) c.in_ok-job_fields-in-Ok.field-0 c.in-Ok.job
    (IfOk-at_ok (IsJob (subcommand_of program (texts c.args.words.now))) c.in-Ok.is c.line.ensures.job)
    c.in_ok-job_fields-in-Ok.ensures

pub returns : goal.returns
returns c =
    asks_for_none (texts c.args.words.now) c.in_ok-fault_answer-in-Err.field-0 c.in-Err.fault
    (IfErr-at_err (IsRefusal (fault_of program (texts c.args.words.now))) c.in-Err.is c.line.ensures.refused)
    (λ same. c.line.ensures.missing (c.in-Err.is ∙ ap Err same)) c.in_ok-fault_answer-in-Err.ensures
