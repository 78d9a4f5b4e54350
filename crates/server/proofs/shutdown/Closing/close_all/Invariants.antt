use Rattle.std.proofs.Common.{◌≡◌, ◌≤◌, length, map, take, vec_capacity}
use Rattle.server.proofs.shutdown.Closing.close_all.Given as goal

abbrev pub invariant-loop-node : goal.invariant-loop-node
invariant-loop-node g l = record {
  items : l.closings.items ≡ map (λ node. node.number) (take l.node-index l.nodes);
  capacity : length l.nodes ≤ vec_capacity l.closings;
}
