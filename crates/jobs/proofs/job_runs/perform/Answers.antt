use Rattle.std.proofs.Common.{refl, sym, ◌∙◌}
use Rattle.jobs.proofs.JobsEnd.{not_0}
use Rattle.jobs.proofs.job_runs.perform.Goals as goal

pub returns-in-Ok-clause-done : goal.returns-in-Ok-clause-done
returns-in-Ok-clause-done g c = λ _. c.in-Ok.ensures.done

pub returns-in-Ok-clause-failed : goal.returns-in-Ok-clause-failed
returns-in-Ok-clause-failed g c = λ differs. absurd (differs refl)

pub returns-in-Err-clause-done : goal.returns-in-Err-clause-done
returns-in-Err-clause-done g c = λ is. absurd (not_0 c.in-Err.error (sym c.fail.ensures ∙ is))

pub returns-in-Err-clause-failed : goal.returns-in-Err-clause-failed
returns-in-Err-clause-failed g c = λ _. (c.in-Err.error, c.in-Err.ensures.failed, c.fail.ensures)
