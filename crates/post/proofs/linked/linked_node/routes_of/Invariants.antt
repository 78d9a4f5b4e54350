use Rattle.std.proofs.Common.{◌≡◌}
use Rattle.post.specs.Linked.{rows_of}
use Rattle.post.proofs.linked.linked_node.routes_of.Given as goal

abbrev pub invariant-loop-row : goal.invariant-loop-row
invariant-loop-row g l = l.routes.items ≡ rows_of l.row
