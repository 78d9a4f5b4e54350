use Rattle.std.proofs.Common.{rules}
use Rattle.cluster.proofs.of_master.NextAnswers.{begun}
use Rattle.cluster.proofs.master.told.begin.Goals as goal

pub returns-in-Ok : goal.returns-in-Ok
returns-in-Ok g c = begun g.K.Keeper.stands c.in-Ok.desk c.args.cluster (search rules) c.in-Ok.ensures.kept
