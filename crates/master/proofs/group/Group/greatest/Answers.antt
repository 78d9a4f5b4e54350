use Rattle.std.proofs.Common.{◌∙◌}
use Rattle.master.proofs.group.Group.greatest.Goals as goal

pub returns-clause-bound : goal.returns-clause-bound
returns-clause-bound g c = c.greatest.ensures.is ∙ c.self.invariant.1.bounded
