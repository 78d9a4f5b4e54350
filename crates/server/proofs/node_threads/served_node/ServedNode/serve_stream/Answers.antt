use Rattle.std.proofs.Common.{sym, subst}
use Rattle.mailbox.specs.Ends.{LaneView}
use Rattle.world_base.specs.declared.node_core.item.Item.{Item}
use Rattle.world_base.specs.declared.node_connections.port.Port.{Port}
use Rattle.server.specs.node_threads.LaneReports.{ReportsOne, SendsWhole}
use Rattle.server.specs.node_threads.LaneReports.ReportsOne.{closed_at_once, served}
use Rattle.server.proofs.node_threads.served_node.ServedNode.serve_stream.Goals as goal
use Rattle.server.proofs.node_threads.served_node.ServedNode.serve_stream.Goals.{in-Some-link, in-None}

pub returns-in_default : goal.returns-in_default
returns-in_default g c = closed_at_once

pub returns : goal.returns
returns g c = elim c.match-link.branch [
  | in-Some-link w ↦
      subst (λ (lane : LaneView Item). ReportsOne c.args.port c.args.lane.sent lane.sent) (sym w.lane-is)
      (served
      (subst (λ (port : Port). SendsWhole port c.args.lane.sent w.serve_link-lane.result.sent) w.in-Some-link.ensures w.serve_link-lane.ensures))
  | in-None w ↦ subst (λ (lane : LaneView Item). ReportsOne c.args.port c.args.lane.sent lane.sent) (sym w.lane-is) closed_at_once
]
