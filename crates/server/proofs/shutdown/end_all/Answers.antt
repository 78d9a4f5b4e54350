use Rattle.std.proofs.Common.{rules, sym}
use Rattle.std.proofs.lemmas.List.{append-nil}
use Rattle.server.proofs.KeptEnds.{kept_next, same_tails}
use Rattle.server.proofs.shutdown.end_all.Goals as goal

pub loop-node-init : goal.loop-node-init
loop-node-init g c = record { closings = search rules; kept = λ none. sym (append-nil _) }

pub loop-node-preserved : goal.loop-node-preserved
loop-node-preserved g c = record {
  closings = same_tails _ _ _ _ _ _ _ c.in-Some-next.ensures.items c.in-Some.ensures.steps.0 c.loop-node.invariant.closings;
  kept =
      kept_next _ c.close.result _ c.in-Some.node c.args.outcome.now c.loop-node.outcome c.keep.new.self c.loop-node.yielded c.keep.ensures.ended
      c.keep.ensures.none c.close.ensures c.loop-node.invariant.kept;
}
