use Rattle.std.proofs.Common.{◌≡◌, ◌++◌, None, map}
use Rattle.std.specs.Vec.Iter.{into_iter_items}
use Rattle.server.specs.Inside.{numbers_of}
use Rattle.server.proofs.shutdown.end_all.Given as goal

abbrev pub invariant-loop-node : goal.invariant-loop-node
invariant-loop-node g l = record {
  closings : into_iter_items l.closings ≡ map (λ node. node.number) (into_iter_items l.node-iterator);
  kept : l.outcome.failure ≡ None → numbers_of l.outcome.ended.items ≡ numbers_of l.initial.outcome.ended.items ++ map (λ node. node.number) l.yielded;
}
