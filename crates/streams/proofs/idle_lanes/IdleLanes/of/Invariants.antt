use Rattle.std.proofs.Common.{◌≡◌, take}
use Rattle.std.specs.List.{list_any}
use Rattle.world_base.specs.declared.node_connections.port.Port.{Port}
use Rattle.streams.specs.ListedConnections.{is_lane_idle}
use Rattle.streams.specs.Ports.{is_of_lane}
use Rattle.streams.proofs.idle_lanes.IdleLanes.of.Given as goal

abbrev pub invariant-loop-port : goal.invariant-loop-port
invariant-loop-port l = (port : Port) → is_lane_idle l.lanes port ≡ list_any (is_of_lane port) (take l.port-index l.ports)
