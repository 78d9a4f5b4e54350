use Rattle.std.proofs.Common.{◌≡◌}
use Rattle.node.proofs.node_state.open_all.Given as goal

abbrev pub invariant-loop-lane : goal.invariant-loop-lane
invariant-loop-lane g l = l.left.items ≡ l.yielded
