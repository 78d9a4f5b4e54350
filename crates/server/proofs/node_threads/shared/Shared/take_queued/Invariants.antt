use Rattle.std.specs.Vec.Iter.{into_iter_items}
use Rattle.lists.specs.Lists.{Each}
use Rattle.post.specs.outbox.Queued.{IsQueued}
use Rattle.server.specs.node_threads.LaneReports.{SendsMore}
use Rattle.server.proofs.node_threads.shared.Shared.take_queued.Given as goal

abbrev pub invariant-loop-item : goal.invariant-loop-item
invariant-loop-item g l = record {
  queued : Each (IsQueued g.H.RunNaming.linked g.H.RunNaming.nodes g.H.RunNaming.config l.self.context.peer.now.number) (into_iter_items l.item-iterator);
  own : SendsMore l.initial.own l.own;
}
