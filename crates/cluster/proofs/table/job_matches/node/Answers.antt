use Rattle.std.proofs.Common.{rules}
use Rattle.cluster.proofs.table.job_matches.node.Goals as goal

pub returns-in_err-row-clause-missing : goal.returns-in_err-row-clause-missing
returns-in_err-row-clause-missing c same job is =
    c.in_err-row.ensures.missing (search rules) job.row is.row
