use Rattle.std.proofs.Common.{rules, ap}
use Rattle.cluster.specs.desk.Runs.Answer.{activated, superseded}
use Rattle.cluster.specs.master.Answers.{answer_in}
use Rattle.cluster.proofs.of_master.NextAnswers.{activate_next, activate_silent, supersede_next}
use Rattle.cluster.proofs.master.told.activate.Goals as goal

pub returns-in-Ok-Activated-clause-next : goal.returns-in-Ok-Activated-clause-next
returns-in-Ok-Activated-clause-next g c = (
  activated c.args.ballot,
  ap answer_in c.message.ensures,
  activate_next g.K.Keeper.stands c.args.desk.now c.activate.new.self c.args.ballot c.activate.result c.activate.ensures.active c.activate.ensures.other (search rules),
)

pub returns-in-Ok-Superseded-clause-next : goal.returns-in-Ok-Superseded-clause-next
returns-in-Ok-Superseded-clause-next g c = (
  superseded c.args.ballot,
  ap answer_in c.message-in-Ok-Superseded.ensures,
  supersede_next g.K.Keeper.stands c.args.desk.now c.activate.new.self c.args.ballot c.activate.result c.activate.ensures.active c.activate.ensures.other (search rules),
)

pub returns-in-Err-clause-silent : goal.returns-in-Err-clause-silent
returns-in-Err-clause-silent g c =
    activate_silent g.K.Keeper.keeps g.K.Keeper.stands c.args.desk.now c.activate.new.self c.args.ballot c.activate.result c.in-Err.error c.activate.ensures.other c.activate.ensures.lost (search rules)
