use Rattle.std.proofs.Common.{Some, None}
use Rattle.jobs.proofs.JobsEnd.{plays}
use Rattle.jobs.proofs.scripts.run.Goals as goal

pub returns-in-Some : goal.returns-in-Some
returns-in-Some g c =
    plays c.print_recovery.result c.args.job.now (Some c.in-Some.escape) c.in_ok-text.text.items c.as_slice.result.now
    (g.I.Read.remaining c.args.input.now) (g.O.Write.contents c.args.output.now) (g.O.Write.contents c.print_recovery.new.output)
    c.in-Some.is c.in_ok-text.ensures c.as_slice.ensures.value c.print_recovery.ensures

pub returns : goal.returns
returns g c =
    plays c.play_text.result c.args.job.now None c.in_ok-text.text.items c.as_slice-in-None.result.now
    (g.I.Read.remaining c.args.input.now) (g.O.Write.contents c.args.output.now) (g.O.Write.contents c.play_text.new.output)
    c.in-None.is c.in_ok-text.ensures c.as_slice-in-None.ensures.value c.play_text.ensures.played
