use Rattle.user_client.specs.Refusals.{RefusesListener}
use Rattle.jobs.specs.Failures.{CanSubscribe}
use Rattle.jobs.proofs.JobsEnd.{by_words, prints_all}
use Rattle.jobs.proofs.tcp_clients.subscribe.Goals as goal

pub returns-in-Ok-clause-printed : goal.returns-in-Ok-clause-printed
returns-in-Ok-clause-printed g c =
    prints_all c.args.job.now.id.now c.args.job.now.count c.in_ok-subscriber.subscriber c.run.new.self
    (g.O.Write.contents c.args.output.now) (g.O.Write.contents c.run.new.output) c.in_ok-subscriber.ensures.made
    c.in-Ok.ensures.printed c.in-Ok.ensures.all

pub returns-in-Ok-clause-untouched : goal.returns-in-Ok-clause-untouched
returns-in-Ok-clause-untouched g c = λ cannot. absurd (cannot c.in_ok-subscriber.ensures.ok)

pub returns-clause-untouched : goal.returns-clause-untouched
returns-clause-untouched g c = λ cannot. absurd (cannot c.in_ok-subscriber.ensures.ok)

pub returns-in_err-subscriber-clause-refused : goal.returns-in_err-subscriber-clause-refused
returns-in_err-subscriber-clause-refused g c =
    by_words c.from_residual.result (CanSubscribe c.args.job.now)
    (RefusesListener c.args.job.now.id.now c.args.job.now.filter.now) c.in_err-subscriber.field-0.0
    c.from_residual.ensures.1 c.in_err-subscriber.ensures.err

pub returns-clause-refused : goal.returns-clause-refused
returns-clause-refused g c = λ cannot. absurd (cannot c.in_ok-subscriber.ensures.ok)
