use Rattle.std.proofs.Common.{◌≡◌, ◌++◌, map, take, drop}
use Rattle.world_base.specs.node_connections.ConnectionChanges.{closed_connection}
use Rattle.world_base.proofs.node_connections.connection_list.close_each.Given as goal

abbrev pub invariant-loop-index : goal.invariant-loop-index
invariant-loop-index l =
    l.connections.items ≡ map closed_connection (take l.index l.initial.connections.items) ++ drop l.index l.initial.connections.items
