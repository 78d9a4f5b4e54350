-- What the last answer of the others makes the new primary send: first of all the answer to the
-- CONNECT.
use Rattle.std.specs.Prelude.{◌≡◌, ◌<◌, ◌≤◌, ℕ, false, List, [], ◌∷◌, ◌++◌, length, map, Some, true, Ok}
use Rattle.std.specs.List.{find}
use Rattle.lists.specs.Lists.{IsPrefixOf}
use Rattle.packet.specs.declared.connect.Connect.{Connect}
use Rattle.packet.specs.declared.packet.Packet.{Packet}
use Rattle.packet.specs.declared.packet.Packet.TheVariants as packets
use Rattle.packet.specs.Spelling.{spelling}
use Rattle.packet.specs.Verdict.{verdict}
use Rattle.ballot_base.specs.declared.message.Effect.{Effect}
use Rattle.ballot_base.specs.declared.message.Effect.TheVariants.{Out}
use Rattle.ballot_base.specs.declared.message.Message.{Message}
use Rattle.broker_spec.specs.declared.command.Command.{Command}
use Rattle.broker_spec.specs.declared.command.Command.TheVariants as commands
use Rattle.broker_spec.specs.Connection.{ConnectionName}
use Rattle.broker_spec.specs.declared.command.Output.{Output}
use Rattle.broker_spec.specs.declared.command.Output.TheVariants.{Send}
use Rattle.world_base.specs.declared.node_connections.connection.Connection.{Connection}
use Rattle.world_base.specs.declared.node_core.item.Item.TheVariants.{Bytes, Peer}
use Rattle.world_base.specs.declared.node_connections.port.Port.{Port}
use Rattle.world_base.specs.node_connections.Connections.{awaits_first_packet, is_open_named}
use Rattle.world_base.specs.node_connections.ConnectionChanges.{max_pending}
use Rattle.world_base.specs.node_core.Core.{CoreState}
use Rattle.world_base.specs.node_core.PortOutput.{listed_at}
use Rattle.world_base.specs.node_core.PacketInput.{open_at}
use Rattle.world_base.specs.node_core.Step.{node_step}
use Rattle.world_base.specs.node_core.Effects.{has_room}
use Rattle.recovery.specs.one_node.ConnectRequest.{proposal_at}
use Rattle.recovery.specs.one_node.Delivery.{heard_by}

-- of all that is to be handed over at a port these bytes come first
pub record PutsOutFirst (port : Port) (front : List ℕ) (core : CoreState) : Type 0 where
  pub connection : Connection
  pub listed : listed_at port core ≡ Some connection
  pub first : IsPrefixOf front connection.pending

-- if the first output of a message is a packet for an open connection without pending output, it is
-- sent first, whatever comes after it
abbrev pub AnswerIsPutOut : Type 0
AnswerIsPutOut =
    (core : CoreState) (message : Message Command) (port : Port) (name : ConnectionName)
    (connection : Connection) (place : ℕ) (packet : Packet) (others : List Output)
    (more : List (Effect Command Output)) → core.replica.state.stopped ≡ false →
    listed_at port core ≡ Some connection →
    find (is_open_named name) core.connections ≡ Some connection → connection.pending ≡ [] →
    (heard_by core message).effects ≡ map (Out place) (Send name packet ∷ others) ++ more →
    0 < length (spelling packet) →
    length (spelling packet) ≤ max_pending →
    PutsOutFirst port (spelling packet) (node_step (Peer message) core).core

-- the answer is put out first if a sole member reads the CONNECT and its proposal is answered at
-- once
abbrev pub AnswerAloneIsPutOut : Type 0
AnswerAloneIsPutOut =
    (core : CoreState) (port : Port) (now : ℕ) (piece : List ℕ) (connection : Connection)
    (connect : Connect) (place : ℕ) (packet : Packet)
    (others : List Output) (more : List (Effect Command Output)) → has_room core ≡ true →
    open_at port core ≡ Some connection → listed_at port core ≡ Some connection →
    find (is_open_named connection.name) core.connections ≡ Some connection →
    awaits_first_packet connection.stage ≡ true → connection.unread ≡ [] → connection.pending ≡ [] →
    verdict piece ≡ Ok (packets.Connect connect, []) →
    (proposal_at core (commands.Connect connection.name connect.client connect.clean)).effects
    ≡ map (Out place) (Send connection.name packet ∷ others) ++ more →
    0 < length (spelling packet) → length (spelling packet) ≤ max_pending →
    PutsOutFirst port (spelling packet) (node_step (Bytes port piece now) core).core
