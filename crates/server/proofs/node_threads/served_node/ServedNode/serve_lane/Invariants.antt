use Rattle.server.specs.node_threads.LaneReports.{ReportsEach}
use Rattle.server.proofs.node_threads.served_node.ServedNode.serve_lane.Given as goal

abbrev pub invariant-loop-count : goal.invariant-loop-count
invariant-loop-count g l = ReportsEach l.initial.lane.lane l.initial.lane.sent l.count l.lane.sent
