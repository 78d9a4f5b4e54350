use Rattle.cluster.proofs.of_master.NextAnswers.{assign_next, assign_silent}
use Rattle.cluster.proofs.master.told.assign.Goals as goal

pub returns-in-Ok-clause-next : goal.returns-in-Ok-clause-next
returns-in-Ok-clause-next g c =
    assign_next g.K.Keeper.stands c.args.desk.now c.assign.new.self c.in-Ok.ballot (record { members = c.args.members; primary = c.args.primary })
    c.in-Ok.ensures.ballot c.in-Ok.ensures.may c.in-Ok.ensures.ok

pub returns-in-Err-clause-silent : goal.returns-in-Err-clause-silent
returns-in-Err-clause-silent g c =
    assign_silent g.K.Keeper.keeps g.K.Keeper.stands c.args.desk.now c.assign.new.self c.in-Err.error (record { members = c.args.members; primary = c.args.primary })
    c.in-Err.ensures.refused c.in-Err.ensures.lost c.in-Err.ensures.asked
