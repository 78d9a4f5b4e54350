use Rattle.std.proofs.Common.{◌≡◌, map}
use Rattle.std.specs.Vec.Iter.{into_iter_items}
use Rattle.server.specs.node_threads.Named.{AreFresh, AreNamed, OpenedView}
use Rattle.server.proofs.node_threads.served_node.start_all.Given as goal

abbrev pub invariant-loop-one : goal.invariant-loop-one
invariant-loop-one g l = record {
  named : AreNamed g.J.Naming.inbox_of g.J.NodeNaming.first_of (into_iter_items l.one-iterator);
  fresh : AreFresh (into_iter_items l.one-iterator);
  started : map (λ node. node.number) l.nodes.items ≡ map (λ (one : OpenedView). one.number) l.yielded;
}
