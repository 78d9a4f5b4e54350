use Rattle.std.proofs.Common.{rules}
use Rattle.command_line.proofs.job_matches.subscribe.Goals as goal

pub returns-in_err-count-clause-missing : goal.returns-in_err-count-clause-missing
returns-in_err-count-clause-missing c same job is =
    c.in_err-count.ensures.missing (search rules) job.count is.count

pub returns-in_err-tries-clause-missing : goal.returns-in_err-tries-clause-missing
returns-in_err-tries-clause-missing c same job is =
    c.in_err-tries.ensures.missing (search rules) job.tries is.tries
