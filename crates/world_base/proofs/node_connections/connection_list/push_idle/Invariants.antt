use Rattle.std.proofs.Common.{◌≡◌, ◌++◌, map, filter, drop}
use Rattle.lists.specs.Lists.{IsPrefixOf}
use Rattle.world_base.specs.declared.node_connections.connection.Connection.{Connection}
use Rattle.world_base.specs.node_connections.PendingOutput.{is_idle}
use Rattle.world_base.proofs.node_connections.connection_list.push_idle.Given as goal

abbrev pub invariant-loop-connection : goal.invariant-loop-connection
invariant-loop-connection l = record {
  left : l.ports.items ++ map (λ (c : Connection). c.port) (filter is_idle (drop l.connection-index l.connections))
      ≡ l.initial.ports.items ++ map (λ (c : Connection). c.port) (filter is_idle l.connections);
  begun : IsPrefixOf l.initial.ports.items l.ports.items;
}
