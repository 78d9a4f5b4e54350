-- Connections on which no packet became whole for longer than their keep alive allows (MQTT
-- 3.1.2.10).
use Rattle.std.specs.Prelude.{ℕ, length, Option, Some, None}
use Rattle.world_base.specs.declared.node_connections.port.Port.{Port}
use Rattle.world_base.specs.node_core.Core.{CoreState, StepOutcome}
use Rattle.world_base.specs.node_core.PacketInput.{port_closed}
use Rattle.world_base.specs.node_core.Effects.{without_messages, repeated}
pub use Rattle.world_base.specs.node_connections.Silent.{lower, lower_silent, lowest_silent}

-- the silent connection with the lowest port is closed as if its stream had ended
abbrev pub ends_if : Option Port → CoreState → StepOutcome
ends_if None core = without_messages core
ends_if (Some port) core = port_closed port core

-- the silent connection with the lowest port is closed, if there is one at this time
unfoldable pub ends_silent : ℕ → CoreState → StepOutcome
ends_silent now core = ends_if (lowest_silent now core.connections) core

-- all silent connections are closed, in rising order of ports: they are at most as many as there
-- are connections
abbrev pub ends_all_silent : ℕ → CoreState → StepOutcome
ends_all_silent now core = repeated (length core.connections) (ends_silent now) core
