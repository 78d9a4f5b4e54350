use Rattle.server.proofs.LanesCame.{adds_both, some_served}
use Rattle.server.proofs.node_threads.lane_slots.LaneSlot.give_back.Goals as goal

pub add-requires : goal.add-requires
add-requires g c = some_served _ c.self.invariant

pub returns-in_ok-into_lane-in-Some : goal.returns-in_ok-into_lane-in-Some
returns-in_ok-into_lane-in-Some g c =
    adds_both c.add-in-Some.result c.args.lanes.now.items c.add.new.lanes.items c.add-in-Some.new.lanes.items c.in_ok-add.ensures c.add-in-Some.ensures
