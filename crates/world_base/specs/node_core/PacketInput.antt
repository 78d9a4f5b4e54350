-- What a node reads from a connection, and how a connection ends (MQTT 3.1.4, 3.2, 4.8).
use Rattle.std.specs.Prelude.{ℕ, if◌then◌else◌, List, length, Option, Some, None, Result, Ok, Err}
use Rattle.std.specs.List.{find}
use Rattle.packet_base.specs.declared.stop.Stop.{Stop}
use Rattle.packet_base.specs.declared.stop.Stop.TheVariants as stops
use Rattle.packet.specs.declared.packet.Packet.{Packet}
use Rattle.packet.specs.declared.packet.Packet.TheVariants as packets
use Rattle.packet.specs.declared.connect.Connect.{Connect}
use Rattle.packet.specs.Verdict.{verdict}
use Rattle.broker_spec.specs.Connection.{ConnectionName}
use Rattle.broker_spec.specs.declared.command.Command.TheVariants as commands
use Rattle.world_base.specs.declared.node_connections.port.Port.{Port}
use Rattle.world_base.specs.declared.node_connections.connection.Connection.{Connection}
use Rattle.world_base.specs.node_connections.Connections.{is_open_at, awaits_first_packet, is_proposed}
use Rattle.world_base.specs.node_connections.ConnectionChanges.{noted_proposed, left_with, closed_connection, changed_where}
use Rattle.world_base.specs.node_core.Core.{CoreState, StepOutcome}
use Rattle.world_base.specs.node_core.Effects.{without_messages, repeated, proposes, has_room}
pub use Rattle.world_base.specs.node_connections.Refusals.{connect_refused}

-- the open connection of a port, if there is one
abbrev pub open_at : Port → CoreState → Option Connection
open_at port core = find (is_open_at port) core.connections

-- a change of the open connection of a port
unfoldable pub changes : Port → (Connection → Connection) → CoreState → CoreState
changes port change core =
    record core { connections = changed_where (is_open_at port) change core.connections }

-- a connection is closed as lost: it is reported to the broker if its Connect was proposed
abbrev pub loses : Port → Connection → CoreState → StepOutcome
loses port connection core =
    if is_proposed connection.stage
    then proposes (commands.Lost connection.name) (changes port closed_connection core)
    else without_messages (changes port closed_connection core)

-- a connection, if there is one, is closed as lost; nothing happens otherwise
abbrev pub loses_open : Port → CoreState → Option Connection → StepOutcome
loses_open port core None = without_messages core
loses_open port core (Some connection) = loses port connection core

-- the open connection of a port is closed as lost, if there is one
unfoldable pub port_closed : Port → CoreState → StepOutcome
port_closed port core = loses_open port core (open_at port core)

-- a CONNECT is proposed; a refused proposal closes the connection
abbrev pub connect_proposed : Port → ConnectionName → Connect → CoreState → StepOutcome
connect_proposed port name connect core =
    if has_room core
    then proposes (commands.Connect name connect.client connect.clean) core
    else without_messages (changes port closed_connection core)

-- a later packet, a CONNECT too, is proposed; a refused proposal closes the connection
abbrev pub proposes_packet : Port → ConnectionName → Packet → CoreState → StepOutcome
proposes_packet port name packet core =
    if has_room core
    then proposes (commands.Packet name packet) core
    else without_messages (changes port closed_connection core)

-- the first packet of a connection must be a CONNECT (MQTT-3.1.0-1)
abbrev pub takes_first_packet : Port → ConnectionName → Packet → CoreState → StepOutcome
takes_first_packet port name (packets.Connect connect) core =
    connect_proposed port name connect (changes port (noted_proposed connect.keep_alive) core)
takes_first_packet port name _ core = without_messages (changes port closed_connection core)

-- what the front of a connection's bytes does to the node at this time: a later CONNECT that is
-- refused with a code is a malformed packet
abbrev pub reads : ℕ → Port → Connection → CoreState → Result (Packet × List ℕ) Stop → StepOutcome
reads now port connection core (Err stops.More) = without_messages core
reads now port connection core (Err (stops.Malformed kind)) = loses port connection core
reads now port connection core (Err (stops.Refused code)) =
    if awaits_first_packet connection.stage
    then without_messages (changes port (connect_refused code) core)
    else loses port connection core
reads now port connection core (Ok (packet, rest)) =
    if awaits_first_packet connection.stage
    then takes_first_packet port connection.name packet (changes port (left_with now rest) core)
    else proposes_packet port connection.name packet (changes port (left_with now rest) core)

-- the packet at the front of its bytes is read, if there is a connection
abbrev pub reads_of : ℕ → Port → CoreState → Option Connection → StepOutcome
reads_of now port core None = without_messages core
reads_of now port core (Some connection) =
    reads now port connection core (verdict connection.unread)

-- the next packet of a port
unfoldable pub reads_next : ℕ → Port → CoreState → StepOutcome
reads_next now port core = reads_of now port core (open_at port core)

-- how many bytes of a connection wait to be read: 0 if there is none
abbrev pub unread_of : Option Connection → ℕ
unread_of None = 0
unread_of (Some connection) = length connection.unread

-- all whole packets of a port, each with its effects before the next: they are at most as many as
-- the bytes
abbrev pub reads_all : ℕ → Port → CoreState → StepOutcome
reads_all now port core = repeated (unread_of (open_at port core)) (reads_next now port) core
