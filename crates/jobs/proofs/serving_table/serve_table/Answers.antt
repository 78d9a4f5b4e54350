use Rattle.std.proofs.Common.{◌≡◌, ◌⊎◌}
use Rattle.jobs.specs.Failures.{IsTable}
use Rattle.jobs.specs.declared.job_error.JobError.{JobError}
use Rattle.jobs.specs.declared.job_error.JobError.TheVariants as errors
use Rattle.jobs.proofs.JobsEnd.{at_work, by_table, on_ok}
use Rattle.jobs.proofs.serving_table.serve_table.Goals as goal

pub returns-clause-ok : goal.returns-clause-ok
returns-clause-ok g c = on_ok c.serve_nodes.result (c.in_ok-table.field-0, c.in_ok-table.ensures.value)

pub returns-clause-refused : goal.returns-clause-refused
returns-clause-refused g c =
    at_work c.serve_nodes.result (IsTable c.args.text.now) (λ (error : JobError). (error ≡ errors.Table) ⊎ (error ≡ errors.Memory))
    (c.in_ok-table.field-0, c.in_ok-table.ensures.value)

pub returns-clause-untouched : goal.returns-clause-untouched
returns-clause-untouched g c = λ cannot. absurd (cannot (c.in_ok-table.field-0, c.in_ok-table.ensures.value))

pub returns-clause-unsaid : goal.returns-clause-unsaid
returns-clause-unsaid g c = λ cannot. absurd (cannot (c.in_ok-table.field-0, c.in_ok-table.ensures.value))

pub returns-in_err-table-clause-refused : goal.returns-in_err-table-clause-refused
returns-in_err-table-clause-refused g c =
    by_table c.from_residual.result c.args.text.now c.in_err-table.field-0.0 c.from_residual.ensures.1
