use Rattle.std.proofs.Common.{rules}
use Rattle.server.proofs.of_node_threads.StartedAlike.{one_more_alike}
use Rattle.server.proofs.node_threads.served_node.start_all.Goals as goal

pub loop-one-preserved : goal.loop-one-preserved
loop-one-preserved g c = record {
  named = search rules;
  fresh = search rules;
  started = one_more_alike _ _ _ _ _ _ _ c.in_ok-push.ensures.items c.in_ok-start.ensures c.loop-one.invariant.started;
}
