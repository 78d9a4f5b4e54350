use Rattle.server.proofs.LanesCame.{came_back}
use Rattle.server.proofs.node_threads.lane_slots.LaneSlots.into_lanes.Goals as goal

pub returns : goal.returns
returns g c = came_back c.args.number c.in_ok-own.seen c.in_ok-own.own c.in_ok-lanes.lanes.items c.in_ok-own.ensures.sent c.in_ok-lanes.ensures
