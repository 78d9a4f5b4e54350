-- Which command a packet becomes, which connection or client a command names, and how many packets
-- of a connection are in the list.
use Rattle.std.specs.Prelude.{◌≡◌, ℕ, zero, suc, Bool, true, false, ◌||◌, if◌then◌else◌, List, [], ◌∷◌, is_some}
use Rattle.packet.specs.declared.packet.Packet.{Packet}
use Rattle.packet.specs.declared.packet.Packet.TheVariants as packets
use Rattle.broker_spec.specs.Connection.{ConnectionName, same_connection}
use Rattle.broker_spec.specs.Place.{Client, Past}
use Rattle.broker_spec.specs.declared.command.Command.{Command}
use Rattle.broker_spec.specs.declared.command.Command.TheVariants as commands
use Rattle.exactly_once.specs.Sides.{ClientConnection}
use Rattle.broker_spec.specs.Sessions.{clean_session_of}

-- the first packet of a connection is a CONNECT and becomes a Connect; each later one a Packet
abbrev pub command_of : ConnectionName → ℕ → Packet → Command
command_of connection zero (packets.Connect connect) =
    commands.Connect connection connect.client connect.clean
command_of connection taken packet = commands.Packet connection packet

-- the connection at this index of the list, one more packet of it taken
abbrev pub with_one_counted : ℕ → List ClientConnection → List ClientConnection
with_one_counted index [] = []
with_one_counted zero (connection ∷ connections) =
    record connection { taken = suc connection.taken } ∷ connections
with_one_counted (suc index) (connection ∷ connections) =
    connection ∷ with_one_counted index connections

-- a Connect of the client, and an Expel of it if it has a session
abbrev pub names_client : Past → Client → Command → Type 0
names_client past client (commands.Connect connection other clean) = other ≡ client
names_client past client (commands.Expel other) =
    (other ≡ client) × (is_some (clean_session_of past client) ≡ true)
names_client past client _ = ⊥

-- whether a command is a packet, or the Connect, of this connection
abbrev pub is_packet_of : Command → ConnectionName → Bool
is_packet_of (commands.Packet on packet) connection = same_connection on connection
is_packet_of (commands.Connect on client clean) connection = same_connection on connection
is_packet_of _ connection = false

-- how many packets of a connection are in the list
abbrev pub packet_count : ConnectionName → Past → ℕ
packet_count connection (place ∷ past) =
    if is_packet_of place.command connection then suc (packet_count connection past)
    else packet_count connection past
packet_count connection [] = 0

-- whether the name of any of these connections passes a test
abbrev pub any_named : (ConnectionName → Bool) → List ClientConnection → Bool
any_named test (connection ∷ connections) = test connection.name || any_named test connections
any_named test [] = false
