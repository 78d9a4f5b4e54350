-- One connection as its node has it, by its name: what is read and proposed of all that is written.
use Rattle.std.specs.Prelude.{◌≡◌, ◌≤◌, ◌<◌, ◌⊎◌, ℕ, suc, Bool, true, false, if◌then◌else◌, List, [], ◌∷◌, Option, Some, None}
use Rattle.std.specs.List.{find}
use Rattle.packet.specs.declared.packet.Packet.{Packet}
use Rattle.broker_spec.specs.Connection.{ConnectionName, same_connection}
use Rattle.broker_spec.specs.declared.command.Command.{Command}
use Rattle.broker_spec.specs.declared.command.Command.TheVariants as commands
use Rattle.lists.specs.Lists.{Each, IsPrefixOf}
use Rattle.cutter.specs.Stream.{Stream}
use Rattle.headline.specs.node_moves.Pipe.{IsPiped}
use Rattle.exactly_once.specs.StoryCommands.{command_of}
use Rattle.world_base.specs.declared.node_connections.connection.Connection.{Connection}
use Rattle.world_base.specs.node_connections.Connections.{awaits_first_packet, is_open_named}
use Rattle.world_base.specs.node_core.Core.{CoreState, StepOutcome}
use Rattle.world_base.specs.node_core.PacketInput.{open_at}
use Rattle.headline.specs.node_moves.Moves.NodeMove.{hears, opens_one, holds, reads_first, reads_later, closes, refuses, loses_one, loses_next, expels_one, cuts_log, crashes, settles, hands}
use Rattle.headline.specs.node_moves.Moves.{NodeMove}

-- ---- a node's connections

-- the open connection of a name
abbrev pub open_named : ConnectionName → CoreState → Option Connection
open_named name core = find (is_open_named name) core.connections

-- at most one of a list passes the test
abbrev pub AtMostOne : {X : Type 0} → (X → Bool) → List X → Type 0
AtMostOne test [] = Unit {0}
AtMostOne test (one ∷ others) =
    (test one ≡ true → Each (λ other. test other ≡ false) others) × AtMostOne test others

-- one name comes before another in the order in which a node gives them: by ballot, then by number
abbrev pub Precedes : ConnectionName → ConnectionName → Type 0
Precedes earlier later =
    (earlier.ballot < later.ballot)
    ⊎ ((earlier.ballot ≡ later.ballot) × (earlier.count < later.count))

-- a name that was given or skipped, if this one was given last
abbrev pub IsGiven : ConnectionName → ConnectionName → Type 0
IsGiven last name =
    (name.ballot < last.ballot) ⊎ ((name.ballot ≡ last.ballot) × (name.count ≤ last.count))

-- at most one connection has a name, and the name was given; none was given for a later ballot than
-- the one that was joined
pub record IsOrderly (core : CoreState) : Type 0 where
  pub names : (name : ConnectionName) →
      AtMostOne (λ (connection : Connection). same_connection connection.name name) core.connections
  pub given : Each (λ (connection : Connection). IsGiven core.last_name connection.name)
      core.connections
  pub within : core.last_name.ballot ≤ core.replica.state.joined

-- ---- what a move does to one connection

-- the command that it proposes
abbrev pub move_proposal : {core : CoreState} {outcome : StepOutcome} → NodeMove core outcome →
    List Command
move_proposal (hears input is) = []
move_proposal (opens_one port) = []
move_proposal (holds port piece) = []
move_proposal (reads_first now port connection connect rest at first is room) =
    commands.Connect connection.name connect.client connect.clean ∷ []
move_proposal (reads_later now port connection packet rest at later is room) =
    commands.Packet connection.name packet ∷ []
move_proposal (closes port) = []
move_proposal (refuses port connection code at first is) = []
move_proposal (loses_one port connection at proposed) = commands.Lost connection.name ∷ []
move_proposal (loses_next connection at) = commands.Lost connection.name ∷ []
move_proposal (expels_one client) = commands.Expel client ∷ []
move_proposal (cuts_log can) = []
move_proposal crashes = []
move_proposal settles = []
move_proposal (hands port) = []

-- the bytes that come on the connection of a name
abbrev pub piece_on : ConnectionName → List ℕ → Option Connection → List ℕ
piece_on name piece None = []
piece_on name piece (Some connection) = if same_connection connection.name name then piece else []

-- the bytes that come on the connection of a name in a move
abbrev pub came_on : ConnectionName → {core : CoreState} {outcome : StepOutcome} →
    NodeMove core outcome → List ℕ
came_on name {core = core} (holds port piece) = piece_on name piece (open_at port core)
came_on name _ = []

-- what a node holds for a connection is the stream of a cutter that found no fault
abbrev pub stream_of : List ℕ → Stream
stream_of unread = record { bytes = unread; failed = false }

-- whether no packet was read
abbrev pub is_nothing : List Packet → Bool
is_nothing [] = true
is_nothing (packet ∷ packets) = false

-- Of the packets that a client writes these were read, and these bytes are still to come.
pub data IsEnd (name : ConnectionName) (core : CoreState) (written read : List Packet)
    (in_transit : List ℕ) : Type 0 where
  -- the node has not given the name yet: all that is written is in transit
  not_yet : Precedes core.last_name name → read ≡ [] →
      IsPiped written [] (stream_of []) in_transit → IsEnd name core written read in_transit
  -- it has the connection open, and holds the bytes that were not read
  is_open : (connection : Connection) → IsGiven core.last_name name →
      open_named name core ≡ Some connection →
      awaits_first_packet connection.stage ≡ is_nothing read →
      IsPiped written read (stream_of connection.unread) in_transit →
      IsEnd name core written read in_transit
  -- it has the connection no longer open: no more is read
  is_over : IsGiven core.last_name name → open_named name core ≡ None → IsPrefixOf read written →
      IsEnd name core written read in_transit

-- the commands of a connection's packets from this number on
abbrev pub packet_commands_from : ConnectionName → ℕ → List Packet → List Command
packet_commands_from name number [] = []
packet_commands_from name number (packet ∷ more) =
    command_of name number packet ∷ packet_commands_from name (suc number) more
