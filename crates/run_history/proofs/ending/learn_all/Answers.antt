use Rattle.std.proofs.Common.{subst, List}
use mathlib.Core.List.{IsPrefix}
use Rattle.run_history.specs.Parties.{NodeView}
use Rattle.run_history.specs.declared.event.RunEvent.{RunEvent}
use Rattle.run_history.proofs.Prefixes.{prefix_trans}
use Rattle.run_history.proofs.Settling.{at_index, below_step}
use Rattle.run_history.proofs.ending.learn_all.Goals as goal

pub loop-node-preserved : goal.loop-node-preserved
loop-node-preserved g c =
    let new = c.learn-in-loop-node.new.self in
    let old = c.loop-node.mark in
    let this : IsPrefix old new = c.learn-in-loop-node.ensures.this in
    let that : IsPrefix c.node-item.result.log new = subst (λ (l : List RunEvent). IsPrefix l new) c.seen.ensures c.learn-in-loop-node.ensures.that in record {
      begins = prefix_trans c.args.mark.now old new c.loop-node.invariant.begins this;
      known =
          below_step (λ _ (s : NodeView). IsPrefix s.log new) c.args.nodes.now c.loop-node.node-index c.node-item.result
          (at_index c.args.nodes.now c.loop-node.node-index c.node-item.result c.loop-node-test.true c.node-item.is)
          (λ j s less at. prefix_trans s.log old new (c.loop-node.invariant.known j s less at) this) that;
    }
