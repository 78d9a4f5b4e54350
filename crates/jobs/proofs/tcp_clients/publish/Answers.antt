use Rattle.user_client.specs.Refusals.{RefusesPublisher}
use Rattle.jobs.specs.Failures.{CanPublish, asked_publication}
use Rattle.jobs.proofs.JobsEnd.{by_words}
use Rattle.jobs.proofs.tcp_clients.publish.Goals as goal

pub returns-in_err-publisher-clause-refused : goal.returns-in_err-publisher-clause-refused
returns-in_err-publisher-clause-refused g c =
    by_words c.from_residual.result (CanPublish c.args.job.now)
    (RefusesPublisher c.args.job.now.id.now (asked_publication c.args.job.now)) c.in_err-publisher.field-0.0
    c.from_residual.ensures.1 c.in_err-publisher.ensures.err

pub returns-clause-refused : goal.returns-clause-refused
returns-clause-refused g c = λ cannot. absurd (cannot c.in_ok-publisher.ensures.ok)
