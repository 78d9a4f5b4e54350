use Rattle.jobs.proofs.JobsEnd.{recovery_of}
use Rattle.jobs.proofs.scripts.print_recovery.Goals as goal

pub returns : goal.returns
returns g c =
    recovery_of c.escape_text.result c.args.job.now c.args.text.now c.in-Ok.members c.as_slice.result.now c.in-Ok-client_of.client
    (g.O.Write.contents c.args.output.now) (g.O.Write.contents c.escape_text.new.output) c.in-Ok.ensures.members c.as_slice.ensures
    c.in-Ok-client_of.ensures.value c.escape_text.ensures.printed
