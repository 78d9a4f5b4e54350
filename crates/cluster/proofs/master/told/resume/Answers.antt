use Rattle.cluster.proofs.of_master.NextAnswers.{resumed}
use Rattle.cluster.proofs.master.told.resume.Goals as goal

pub returns-in-Ok : goal.returns-in-Ok
returns-in-Ok g c = resumed g.K.Keeper.stands c.args.bytes.now c.in-Ok.desk c.in-Ok.ensures.read c.in-Ok.ensures.kept
