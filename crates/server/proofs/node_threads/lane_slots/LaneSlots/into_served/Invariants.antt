use Rattle.std.proofs.Common.{[], ◌∷◌}
use Rattle.server.specs.node_threads.ThreadLives.{AddsServed}
use Rattle.server.proofs.node_threads.lane_slots.LaneSlots.into_served.Given as goal

abbrev pub invariant-loop-slot : goal.invariant-loop-slot
invariant-loop-slot g l = AddsServed (l.fn.own ∷ []) l.back.items
