use Rattle.world_nodes.proofs.CountsGoOn.{loses_counting}
use Rattle.world_nodes.proofs.nodes.Nodes.count_loss.Goals as goal

pub invariant_of-self : goal.invariant_of-self
invariant_of-self c = loses_counting _ _ _ _ c.self.invariant
