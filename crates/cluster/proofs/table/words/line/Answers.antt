use Rattle.std.proofs.Common.{◌≡◌, ap, map, rules, subst, sym, ◌∙◌}
use Rattle.std.specs.Prelude.{IfOk}
use Rattle.clap.specs.Words.{HasKind, app_of, fault_of, is_simple, subcommand_of, subcommand_rows_of}
use Rattle.clap.specs.Faults.{is_simple_and_free}
use Rattle.cluster.specs.table.Jobs.{IsJob}
use Rattle.cluster.specs.table.Program.{program}
use Rattle.cluster.proofs.of_table.Plain.{is_free, is_plain}
use Rattle.cluster.proofs.of_table.Plain.{on_ok}
use Rattle.cluster.proofs.table.words.line.Goals as goal

pub returns-in-Ok-clause-job : goal.returns-in-Ok-clause-job
returns-in-Ok-clause-job g c =
    let is : app_of c.in_ok-command.command ≡ program = c.in_ok-command.ensures.0 in
    let met : subcommand_rows_of c.in-Ok.matches ≡ subcommand_of program (map g.S.AsStr.text c.args.words.now) =
    (c.in-Ok.ensures.matches (ap is_simple is ∙ is_plain)).1 ∙ ap (λ app. subcommand_of app (map g.S.AsStr.text c.args.words.now)) is in
    subst (λ rows. IfOk c.job_of.result (IsJob rows)) met c.job_of.ensures.job

pub returns-in-Ok-clause-taken : goal.returns-in-Ok-clause-taken
returns-in-Ok-clause-taken g c =
    let is : app_of c.in_ok-command.command ≡ program = c.in_ok-command.ensures.0 in
    on_ok c.job_of.result (ap (λ app. fault_of app (map g.S.AsStr.text c.args.words.now)) (sym is)
    ∙ c.in-Ok.ensures.kinds (ap is_simple_and_free is ∙ is_free))

pub returns-in-Ok-clause-missing : goal.returns-in-Ok-clause-missing
returns-in-Ok-clause-missing g c same job is_job =
    let is : app_of c.in_ok-command.command ≡ program = c.in_ok-command.ensures.0 in
    let met : subcommand_rows_of c.in-Ok.matches ≡ subcommand_of program (map g.S.AsStr.text c.args.words.now) =
    (c.in-Ok.ensures.matches (ap is_simple is ∙ is_plain)).1 ∙ ap (λ app. subcommand_of app (map g.S.AsStr.text c.args.words.now)) is in
    c.job_of.ensures.missing same job (subst (λ rows. IsJob rows job) (sym met) is_job)

pub returns-in-Err-clause-refused : goal.returns-in-Err-clause-refused
returns-in-Err-clause-refused g c =
    let is : app_of c.in_ok-command.command ≡ program = c.in_ok-command.ensures.0 in
    c.refusal.ensures.refused (fault_of program (map g.S.AsStr.text c.args.words.now))
    (subst (λ app. HasKind (fault_of app (map g.S.AsStr.text c.args.words.now)) c.in-Err.error) is
    (c.in-Err.ensures.kinds (ap is_simple_and_free is ∙ is_free)))

pub returns-in-Err-clause-missing : goal.returns-in-Err-clause-missing
returns-in-Err-clause-missing g c same job is_job = absurd (c.refusal.ensures.whole (search rules))
