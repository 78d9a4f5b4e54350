-- What a node does in a step, move by move: each of its steps is a run of these.
use Rattle.std.specs.Prelude.{◌≡◌, ℕ, Bool, true, false, List, [], ◌∷◌, ◌++◌, Some, Ok, Err}
use Rattle.std.specs.List.{find}
use Rattle.packet_base.specs.declared.stop.Stop.TheVariants as stops
use Rattle.packet_base.specs.declared.refusal_code.RefusalCode.{RefusalCode}
use Rattle.packet.specs.declared.packet.Packet.{Packet}
use Rattle.packet.specs.declared.packet.Packet.TheVariants as packets
use Rattle.packet.specs.declared.connect.Connect.{Connect}
use Rattle.packet.specs.Verdict.{verdict}
use Rattle.ballot_base.specs.Compaction.{can_cut}
use Rattle.ballot_base.specs.Protocol.{Input}
use Rattle.ballot_base.specs.Protocol.Input.{Receives, Proposes, Ticks}
use Rattle.broker_spec.specs.declared.command.Command.{Command}
use Rattle.broker_spec.specs.declared.command.Command.TheVariants as commands
use Rattle.world_base.specs.declared.node_connections.port.Port.{Port}
use Rattle.world_base.specs.declared.node_core.item.Item.{Item}
use Rattle.world_base.specs.declared.node_connections.connection.Connection.{Connection}
use Rattle.world_base.specs.node_connections.Connections.{has_failed, awaits_first_packet, is_proposed}
use Rattle.world_base.specs.node_connections.ConnectionChanges.{noted_proposed, with_unread, left_with, closed_connection}
use Rattle.world_base.specs.node_core.Core.{CoreState, StepOutcome}
use Rattle.world_base.specs.node_core.FailedConnections.{closes_failed}
use Rattle.world_base.specs.node_core.PortOutput.{hands_over}
use Rattle.world_base.specs.node_core.PacketInput.{changes, open_at}
use Rattle.world_base.specs.node_connections.Refusals.{connect_refused}
use Rattle.world_base.specs.node_core.Step.{node_step, with_next_connection, settled, crashed, with_cut}
use Rattle.world_base.specs.node_core.Effects.{without_messages, proposes, drives, has_room}

-- whether an input of a replica is a proposal
abbrev pub is_proposal : Input Command → Bool
is_proposal (Receives message) = false
is_proposal (Proposes command) = true
is_proposal Ticks = false

-- one move of a node, without losses
pub data NodeMove (core : CoreState) : StepOutcome → Type 0 where
  -- the replica receives a message or a tick, and its effects are done
  hears : (input : Input Command) → is_proposal input ≡ false → NodeMove core (drives input core)
  -- a connection is opened
  opens_one : (port : Port) → NodeMove core (without_messages (with_next_connection port core))
  -- bytes come in on an open connection
  holds : (port : Port) (piece : List ℕ) →
      NodeMove core (without_messages (changes port (with_unread piece) core))
  -- the first packet of an open connection, a CONNECT, is read and proposed, whole at this time;
  -- the log has room for it
  reads_first : (now : ℕ) (port : Port) (connection : Connection) (connect : Connect)
      (rest : List ℕ) → open_at port core ≡ Some connection →
      awaits_first_packet connection.stage ≡ true →
      verdict connection.unread ≡ Ok (packets.Connect connect, rest) → has_room core ≡ true →
      NodeMove core (proposes (commands.Connect connection.name connect.client connect.clean)
      (changes port (noted_proposed connect.keep_alive) (changes port (left_with now rest) core)))
  -- each later packet of an open connection is read and proposed, if the log has room for it
  reads_later : (now : ℕ) (port : Port) (connection : Connection) (packet : Packet)
      (rest : List ℕ) → open_at port core ≡ Some connection →
      awaits_first_packet connection.stage ≡ false →
      verdict connection.unread ≡ Ok (packet, rest) → has_room core ≡ true →
      NodeMove core (proposes (commands.Packet connection.name packet)
      (changes port (left_with now rest) core))
  -- a connection is closed, and nothing more is read from it
  closes : (port : Port) → NodeMove core (without_messages (changes port closed_connection core))
  -- a connection is closed with an answer: its first packet is a CONNECT that is refused
  refuses : (port : Port) (connection : Connection) (code : RefusalCode) →
      open_at port core ≡ Some connection → awaits_first_packet connection.stage ≡ true →
      verdict connection.unread ≡ Err (stops.Refused code) →
      NodeMove core (without_messages (changes port (connect_refused code) core))
  -- a connection is closed, and its loss is proposed, since its Connect was
  loses_one : (port : Port) (connection : Connection) → open_at port core ≡ Some connection →
      is_proposed connection.stage ≡ true →
      NodeMove core (proposes (commands.Lost connection.name) (changes port closed_connection core))
  -- the loss of a connection is proposed that was closed because there was no room for its output
  loses_next : (connection : Connection) → find has_failed core.connections ≡ Some connection →
      NodeMove core (proposes (commands.Lost connection.name) (closes_failed core))
  -- an Expel of a client is proposed
  expels_one : (client : List ℕ) → NodeMove core (proposes (commands.Expel client) core)
  -- the replica cuts its log
  cuts_log : can_cut core.replica.state ≡ true → NodeMove core (without_messages (with_cut core))
  -- the node crashes
  crashes : NodeMove core (without_messages (crashed core))
  -- if it no longer serves clients all connections are closed; closed ones without pending output
  -- are removed
  settles : NodeMove core (without_messages (settled core))
  -- the pending output of a port is handed over
  hands : (port : Port) → NodeMove core (without_messages (hands_over port core))

-- an outcome, and another after it
abbrev pub and_then : StepOutcome → StepOutcome → StepOutcome
and_then first next = record { core = next.core; messages = first.messages ++ next.messages }

-- moves one after another
pub data MoveTrace : CoreState → StepOutcome → Type 0 where
  -- no move
  rests : {core : CoreState} → MoveTrace core (without_messages core)
  -- one move, and others after it
  goes_on : {core : CoreState} {first next : StepOutcome} → NodeMove core first →
      MoveTrace first.core next →
      MoveTrace core (and_then first next)

-- a call of a node: it takes an item, or hands over what was queued for a port
pub data NodeCall : Type 0 where
  takes : Item → NodeCall  -- the call `step` of a node
  hands_out : Port → NodeCall  -- the call `outgoing`

-- what a call of a node does: it takes an item, or hands over bytes
abbrev pub done : NodeCall → CoreState → StepOutcome
done (takes item) core = node_step item core
done (hands_out port) core = without_messages (hands_over port core)

-- one call after another
abbrev pub all_done : List NodeCall → CoreState → StepOutcome
all_done [] core = without_messages core
all_done (node_call ∷ node_calls) core =
    and_then (done node_call core) (all_done node_calls (done node_call core).core)

-- all that a node ever does, call after call, is a run of moves
abbrev pub NodeCallsAreMoves : Type 0
NodeCallsAreMoves =
    (node_calls : List NodeCall) (core : CoreState) → MoveTrace core (all_done node_calls core)
