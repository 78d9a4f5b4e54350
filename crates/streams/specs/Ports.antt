-- The ports of connections, from which their lanes can be told.
use Rattle.std.specs.Prelude.{ℕ, ◌+◌, ◌*◌, ◌%◌, ◌==◌, Bool}
use Rattle.world_base.specs.declared.node_connections.port.Port.{Port}
use Rattle.streams.specs.declared.ports.TheConstants.{PORTS_APART}

-- the port of a lane's connection number `count`, from 0
abbrev pub port_of : ℕ → ℕ → Port
port_of lane count = record { 0 = PORTS_APART * count + lane }

-- whether two ports are of one lane
abbrev pub is_of_lane : Port → Port → Bool
is_of_lane port other = port.0 % 64 == other.0 % 64
