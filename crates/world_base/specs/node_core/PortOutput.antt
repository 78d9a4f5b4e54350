-- Handing over the pending output of a port.
use Rattle.std.specs.Prelude.{List, map, Option, Some, None}
use Rattle.std.specs.List.{find, filter}
use Rattle.world_base.specs.declared.node_connections.port.Port.{Port}
use Rattle.world_base.specs.declared.node_connections.connection.Connection.{Connection}
use Rattle.world_base.specs.node_connections.Connections.{is_at, is_listed}
use Rattle.world_base.specs.node_connections.ConnectionChanges.{nothing_pending, changed_where}
use Rattle.world_base.specs.node_core.Core.{CoreState}
pub use Rattle.world_base.specs.node_connections.PendingOutput.{handed_after, pending_bytes, is_idle}

-- the connection of a port that is open, or has pending output
abbrev pub listed_at : Port → CoreState → Option Connection
listed_at port core = find (is_at port) core.connections

-- what remains: a closed connection is removed with its last bytes
abbrev pub left_by : Port → CoreState → Option Connection → CoreState
left_by port core None = core
left_by port core (Some connection) =
    record core {
      connections = filter is_listed
          (changed_where (is_at port) nothing_pending core.connections);
    }

-- the pending output of a port is handed over
unfoldable pub hands_over : Port → CoreState → CoreState
hands_over port core = left_by port core (listed_at port core)

-- the ports of the open connections without pending output: any other port has some, or is closed
abbrev pub idle_ports : CoreState → List Port
idle_ports core =
    map (λ (connection : Connection). connection.port) (filter is_idle core.connections)
