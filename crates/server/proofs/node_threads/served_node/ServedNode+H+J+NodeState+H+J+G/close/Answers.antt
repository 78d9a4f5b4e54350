use Rattle.std.proofs.Common.{◌∙◌, sym, subst}
use Rattle.server.specs.node_threads.ThreadLives.{CameBack}
use Rattle.server.proofs.ReportsTold.{told_so}
use Rattle.server.proofs.node_threads.served_node.ServedNode+H+J+NodeState+H+J+G.close.Goals as goal

pub invariant_of-result : goal.invariant_of-result
invariant_of-result g c =
    told_so _ c.args.self.number c.args.self.shared.node c.as_mut_slice.result.now c.close.new.lanes c.in_ok-report.report c.in_ok-report.node c.in_ok-lanes.seen
    c.in_ok-report.ensures.reports (c.args.self.shared.named ∙ sym c.args.self.its) c.in_ok-report.ensures.its c.args.self.lanes
    c.in_ok-report.ensures.lanes (subst (CameBack c.args.self.number c.in_ok-lanes.seen) (sym c.as_mut_slice.ensures.value) c.in_ok-lanes.ensures)
