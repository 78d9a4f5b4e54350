-- Which of the silent connections has the lowest port (MQTT 3.1.2.10).
use Rattle.std.specs.Prelude.{ℕ, nat_lt, if◌then◌else◌, List, Option, Some, None}
use Rattle.std.specs.List.{fold}
use Rattle.world_base.specs.declared.node_connections.port.Port.{Port}
use Rattle.world_base.specs.declared.node_connections.connection.Connection.{Connection}
use Rattle.world_base.specs.node_connections.Connections.{is_silent}

-- the lower of two ports
abbrev pub lower : Option Port → Port → Port
lower None port = port
lower (Some low) port = if nat_lt port.0 low.0 then port else low

-- the lowest port so far, after one more connection
abbrev pub lower_silent : ℕ → Option Port → Connection → Option Port
lower_silent now low connection =
    if is_silent now connection then Some (lower low connection.port) else low

-- the lowest port of the silent connections
abbrev pub lowest_silent : ℕ → List Connection → Option Port
lowest_silent now connections = fold (lower_silent now) None connections
