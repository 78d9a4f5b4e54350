use Rattle.std.proofs.Common.{◌≡◌, drop}
use Rattle.std.specs.List.{fold}
use Rattle.world_base.specs.node_connections.Silent.{lower_silent, lowest_silent}
use Rattle.world_base.proofs.node_connections.connection_list.lowest_silent.Given as goal

abbrev pub invariant-loop-connection : goal.invariant-loop-connection
invariant-loop-connection l =
    fold (lower_silent l.now) l.lowest (drop l.connection-index l.connections) ≡ lowest_silent l.now l.connections
