-- What a node may do in a step when memory may run out, move by move: one of its moves, or one in
-- which something is lost.
use Rattle.std.specs.Prelude.{◌≡◌, ℕ, true, false, List, Some, Ok}
use Rattle.packet.specs.declared.packet.Packet.{Packet}
use Rattle.packet.specs.declared.packet.Packet.TheVariants as packets
use Rattle.packet.specs.declared.connect.Connect.{Connect}
use Rattle.packet.specs.Verdict.{verdict}
use Rattle.ballot_base.specs.Losses.{halted, one_more}
use Rattle.ballot_base.specs.Protocol.{Input}
use Rattle.broker_spec.specs.declared.command.Command.{Command}
use Rattle.broker_spec.specs.declared.command.Command.TheVariants as commands
use Rattle.broker_spec.specs.Connection.{ConnectionName}
use Rattle.world_base.specs.declared.node_connections.port.Port.{Port}
use Rattle.world_base.specs.declared.node_connections.connection.Connection.{Connection}
use Rattle.world_base.specs.node_connections.Connections.{awaits_first_packet}
use Rattle.world_base.specs.node_connections.ConnectionChanges.{noted_proposed, closed_connection, failing, left_with}
use Rattle.world_base.specs.node_core.Core.{CoreState, StepOutcome, rules}
use Rattle.world_base.specs.node_core.FailedConnections.{closes_failed}
use Rattle.world_base.specs.node_core.Lossy.{Account, Drives, TakesCommand}
use Rattle.world_base.specs.node_core.PacketInput.{changes, open_at}
use Rattle.world_base.specs.node_core.Effects.{without_messages}
use Rattle.headline.specs.node_moves.Moves.{NodeMove, is_proposal}

-- ---- one move

-- what happened to a node, and the messages that were sent
abbrev pub outcome_in : Account → StepOutcome
outcome_in account = record { core = account.core; messages = account.messages }

-- the replica counts a loss
abbrev pub with_loss : CoreState → CoreState
with_loss core =
    record core { replica = record core.replica { losses = one_more core.replica.losses } }

-- the replica stops, and counts that
abbrev pub halting : CoreState → CoreState
halting core =
    record core {
      replica = record {
        state = halted rules core.replica.state;
        losses = one_more core.replica.losses;
      };
    }

-- one move of a node, exact or with losses
pub data NodeMoveOrLost (core : CoreState) : StepOutcome → Type 0 where
  -- a move without losses
  exactly : {outcome : StepOutcome} → NodeMove core outcome → NodeMoveOrLost core outcome
  -- the replica receives a message or a tick, perhaps with losses; some of the messages that it
  -- returns may be lost, and connections closed
  hears_losing : (input : Input Command) (account : Account) → is_proposal input ≡ false →
      Drives input core account → NodeMoveOrLost core (outcome_in account)
  -- a CONNECT, the first packet of an open connection, is read and taken, perhaps with losses
  first_losing : (now : ℕ) (port : Port) (connection : Connection) (connect : Connect)
      (rest : List ℕ) (account : Account) → open_at port core ≡ Some connection →
      awaits_first_packet connection.stage ≡ true →
      verdict connection.unread ≡ Ok (packets.Connect connect, rest) →
      TakesCommand (commands.Connect connection.name connect.client connect.clean)
      (changes port (noted_proposed connect.keep_alive) (changes port (left_with now rest) core))
      account →
      NodeMoveOrLost core (outcome_in account)
  -- a later packet is read and taken, perhaps with losses
  later_losing : (now : ℕ) (port : Port) (connection : Connection) (packet : Packet) (rest : List ℕ)
      (account : Account) → open_at port core ≡ Some connection →
      awaits_first_packet connection.stage ≡ false → verdict connection.unread ≡ Ok (packet, rest) →
      TakesCommand (commands.Packet connection.name packet)
      (changes port (left_with now rest) core) account →
      NodeMoveOrLost core (outcome_in account)
  -- that a connection is lost is taken, perhaps with losses
  tells_losing : (name : ConnectionName) (account : Account) →
      TakesCommand (commands.Lost name) core account →
      NodeMoveOrLost core (outcome_in account)
  -- an Expel is taken, perhaps with losses
  expels_losing : (client : List ℕ) (account : Account) →
      TakesCommand (commands.Expel client) core account →
      NodeMoveOrLost core (outcome_in account)
  -- the replica does not take what it receives, and counts that
  forgets : NodeMoveOrLost core (without_messages (with_loss core))
  -- the replica stops, and counts that
  halts : NodeMoveOrLost core (without_messages (halting core))
  -- a connection is closed as lost, and the loss is still to be reported to the broker
  fails : (port : Port) → NodeMoveOrLost core (without_messages (changes port failing core))
  -- a connection that was closed as lost is closed for good, and its loss is not reported
  unheard : NodeMoveOrLost core (without_messages (closes_failed core))
  -- bytes come in on an open connection that is closed, since there is no memory for them
  drops : (port : Port) (piece : List ℕ) →
      NodeMoveOrLost core (without_messages (changes port closed_connection core))
