use Rattle.std.proofs.Common.{ℕ, ◌<◌}
use Rattle.node.proofs.ItsLanes.{Placed}
use Rattle.node.proofs.locked_node.Node.has_all.Given as goal

abbrev pub invariant-loop-index : goal.invariant-loop-index
invariant-loop-index g l = (k : ℕ) → k < l.index → Placed l.self.number l.lanes k
