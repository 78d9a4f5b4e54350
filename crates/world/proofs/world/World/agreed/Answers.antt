use Rattle.std.proofs.Common.{◌++◌}
use Rattle.world.proofs.OneAgreed.{exact_by, reached_agree}
use Rattle.world.proofs.world.World.agreed.Goals as goal

pub returns-clause-reached : goal.returns-clause-reached
returns-clause-reached c = rw (← c.self.view_is) (reached_agree _ (c.agreed.result.0.now ++ c.agreed.result.1.now) c.agreed.ensures)

pub returns-clause-exact : goal.returns-clause-exact
returns-clause-exact c = rw (← c.self.view_is) (exact_by _ (c.agreed.result.0.now ++ c.agreed.result.1.now) c.agreed.ensures)
