use Rattle.std.proofs.Common.{rules}
use Rattle.cluster.proofs.of_master.NextAnswers.{start_next, start_silent}
use Rattle.cluster.proofs.master.told.start.Goals as goal

pub returns-in-Ok-clause-next : goal.returns-in-Ok-clause-next
returns-in-Ok-clause-next g c =
    start_next g.K.Keeper.stands c.args.desk.now c.start.new.self c.next-number.result c.next-number.ensures.fits (search rules) c.next-number.ensures.value (search rules)

pub returns-in-Err-clause-silent : goal.returns-in-Err-clause-silent
returns-in-Err-clause-silent g c =
    start_silent g.K.Keeper.keeps g.K.Keeper.stands c.args.desk.now c.start.new.self c.in-Err.error c.next-number.ensures.fits
    c.in-Err.ensures.spent c.in-Err.ensures.refused c.in-Err.ensures.lost
