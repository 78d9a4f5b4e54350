use Rattle.command_line.specs.declared.job.Job.{Job}
use Rattle.command_line.specs.declared.job.Job.TheVariants as jobs
use Rattle.jobs.specs.Done.{IsJobDone, PrintsAll}
use Rattle.jobs.specs.Failures.{CanSubscribe}
use Rattle.jobs.proofs.JobsEnd.{both, done_in, fails_in, fails_somehow}
use Rattle.jobs.proofs.job_runs.do_job.Goals as goal

pub returns-in-Serve-clause-done : goal.returns-in-Serve-clause-done
returns-in-Serve-clause-done g c =
    done_in c.run.result
    (λ (job : Job). IsJobDone g.O.Write.contents job (g.I.Read.remaining c.args.input.now) c.args.output.now c.run.new.output)
    c.args.job.now (jobs.Serve c.in-Serve.job) c.in-Serve.is c.run.ensures

pub returns-in-Serve-clause-failed : goal.returns-in-Serve-clause-failed
returns-in-Serve-clause-failed g c =
    fails_in c.run.result c.args.job.now (jobs.Serve c.in-Serve.job) c.in-Serve.is (fails_somehow c.run.result)

pub returns-in-Publish-clause-done : goal.returns-in-Publish-clause-done
returns-in-Publish-clause-done g c =
    done_in c.publish.result
    (λ (job : Job). IsJobDone g.O.Write.contents job (g.I.Read.remaining c.args.input.now) c.args.output.now c.args.output.now)
    c.args.job.now (jobs.Publish c.in-Publish.job) c.in-Publish.is c.publish.ensures.ok

pub returns-in-Publish-clause-failed : goal.returns-in-Publish-clause-failed
returns-in-Publish-clause-failed g c =
    fails_in c.publish.result c.args.job.now (jobs.Publish c.in-Publish.job) c.in-Publish.is c.publish.ensures.refused

pub returns-in-Subscribe-clause-done : goal.returns-in-Subscribe-clause-done
returns-in-Subscribe-clause-done g c =
    let job = c.in-Subscribe.job in
    done_in c.subscribe.result
    (λ (job : Job). IsJobDone g.O.Write.contents job (g.I.Read.remaining c.args.input.now) c.args.output.now c.subscribe.new.output)
    c.args.job.now (jobs.Subscribe job) c.in-Subscribe.is
    (both c.subscribe.result (CanSubscribe job)
    (PrintsAll job.id.now job.count (g.O.Write.contents c.args.output.now) (g.O.Write.contents c.subscribe.new.output))
    c.subscribe.ensures.ok c.subscribe.ensures.printed)

pub returns-in-Subscribe-clause-failed : goal.returns-in-Subscribe-clause-failed
returns-in-Subscribe-clause-failed g c =
    fails_in c.subscribe.result c.args.job.now (jobs.Subscribe c.in-Subscribe.job) c.in-Subscribe.is c.subscribe.ensures.refused

pub returns-in-Play-clause-done : goal.returns-in-Play-clause-done
returns-in-Play-clause-done g c =
    done_in c.run-in-Play.result
    (λ (job : Job). IsJobDone g.O.Write.contents job (g.I.Read.remaining c.args.input.now) c.args.output.now c.run-in-Play.new.output)
    c.args.job.now (jobs.Play c.in-Play.job) c.in-Play.is c.run-in-Play.ensures

pub returns-in-Play-clause-failed : goal.returns-in-Play-clause-failed
returns-in-Play-clause-failed g c =
    fails_in c.run-in-Play.result c.args.job.now (jobs.Play c.in-Play.job) c.in-Play.is (fails_somehow c.run-in-Play.result)
