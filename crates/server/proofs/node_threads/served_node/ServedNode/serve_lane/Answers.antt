use Rattle.std.proofs.Common.{◌≡◌, ℕ, ◌∙◌, ap, subst, arith}
use Rattle.world_base.specs.declared.node_connections.port.Port.{Port}
use Rattle.streams.specs.Ports.{port_of}
use Rattle.server.specs.declared.node_threads.lane_threads.TheConstants.{MAX_CONNECTIONS_OF_LANE}
use Rattle.server.specs.node_threads.LaneReports.{ReportsEach, ReportsOne}
use Rattle.server.specs.node_threads.LaneReports.ReportsEach.{begins, goes_on}
use Rattle.server.proofs.node_threads.served_node.ServedNode.serve_lane.Goals as goal

pub loop-count-init : goal.loop-count-init
loop-count-init g c = begins

pub loop-count-preserved : goal.loop-count-preserved
loop-count-preserved g c = goes_on _ c.loop-count.invariant
    (subst (λ (port : Port). ReportsOne port c.loop-count.lane.sent c.serve_stream-lane.result.sent)
    (c.port_of.ensures ∙ ap (λ (lane : ℕ). port_of lane c.loop-count.count) c.lane-number.ensures)
    c.serve_stream-lane.ensures)

pub returns-clause-ends : goal.returns-clause-ends
returns-clause-ends g c =
    let all : c.loop-count.count ≡ MAX_CONNECTIONS_OF_LANE = omega (arith, c.loop-count-test.false, c.loop-count.auto.count-end) in
    subst (λ (count : ℕ). ReportsEach c.args.lane.lane c.args.lane.sent count c.loop-count.lane.sent) all c.loop-count.invariant
