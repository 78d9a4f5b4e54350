use Rattle.std.proofs.Common.{◌≡◌, Some, arith}
use Rattle.std.specs.Prelude.{slice_get}
use Rattle.run_history.specs.Ends.{IsEnded}
use Rattle.run_history.proofs.Settling.{at_index, below_step}
use Rattle.run_history.proofs.ending.settle_each.Goals as goal

pub settle_at-requires : goal.settle_at-requires
settle_at-requires g c =
    c.requires c.loop-index.index c.index-nodes-index.result c.loop-index-test.true (at_index c.args.nodes.now c.loop-index.index c.index-nodes-index.result c.loop-index-test.true c.index-nodes-index.is)

pub loop-index-preserved : goal.loop-index-preserved
loop-index-preserved g c =
    let at : slice_get c.args.nodes.now c.loop-index.index ≡ Some c.index-nodes-index.result = at_index c.args.nodes.now c.loop-index.index c.index-nodes-index.result c.loop-index-test.true c.index-nodes-index.is in
    below_step (IsEnded g.H.RunNaming.nodes g.H.RunNaming.config c.args.mark.now) c.args.nodes.now c.loop-index.index c.index-nodes-index.result at c.loop-index.invariant c.settle_at.ensures

pub returns : goal.returns
returns g c = λ k node less at. c.loop-index.invariant k node (omega (arith, less, c.loop-index-test.false)) at
