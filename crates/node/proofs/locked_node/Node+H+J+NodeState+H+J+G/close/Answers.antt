use Rattle.std.proofs.Common.{ap, sym, ◌∙◌, arith}
use Rattle.node.specs.LockedNode.{NodeView}
use Rattle.node.proofs.ReportIsOn.{report_is_on}
use Rattle.node.proofs.locked_node.Node+H+J+NodeState+H+J+G.close.Goals as goal

pub returns-then-has_all-clause-reports : goal.returns-then-has_all-clause-reports
returns-then-has_all-clause-reports g c =
    report_is_on g.J.NodeNaming.first_of c.into_inner-state.result c.args.self.number _ c.close.new.lanes c.close.result.0 c.close.result.1
    (sym c.number.ensures ∙ (c.if-number.true ∙ ap (λ (n : NodeView). n.number) c.self.view_is))
    (c.requires.lanes.all ∙ (sym (ap (λ (n : NodeView). n.lanes) c.self.view_is)
    ∙ omega (arith, c.self.inside.space.taken.ok.0, c.if-lanes-len.true, c.lanes.ensures)))
    c.close.ensures.lanes c.close.ensures.ended c.close.ensures.replays c.close.ensures.named c.close.ensures.items
    c.close.ensures.all c.close.ensures.below c.close.ensures.each c.close.ensures.counted c.close.ensures.number c.close.ensures.base
