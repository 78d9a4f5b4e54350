use Rattle.std.proofs.Common.{◌++◌, ◌∷◌, [], ◌∙◌}
use Rattle.node.proofs.node_state.open_all.Goals as goal

pub loop-lane-preserved : goal.loop-lane-preserved
loop-lane-preserved g c = c.keep.ensures ∙ (λ i. c.loop-lane.invariant i ++ (c.in-Some.lane, c.into_parts-number.ensures.item i) ∷ [])
