use Rattle.std.proofs.Common.{◌≡◌}
use Rattle.post.proofs.linked.linked_node.LinkedNode.queue_away.Given as goal

abbrev pub invariant-loop-route : goal.invariant-loop-route
invariant-loop-route g l = l.unsent ≡ l.initial.unsent
