use Rattle.std.proofs.Common.{arith}
use Rattle.master.proofs.LossesCounted.{counts_lost}
use Rattle.master.proofs.group.Group.count_loss.Goals as goal

pub invariant_of-self : goal.invariant_of-self
invariant_of-self g c = (
  c.self.invariant.0,
  c.self.invariant.1,
  counts_lost c.self.inside.losses c.counted-self-inside.result c.self.inside.nodes.items (omega arith) c.counted-self-inside.ensures c.self.invariant.2,
)
