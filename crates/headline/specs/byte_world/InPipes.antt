-- The pipes of a world carry in order: what arrives at one end of a connection is a prefix of what
-- was written at the other.
use Rattle.std.specs.Prelude.{◌≡◌, ℕ, false, List, ◌∷◌, ◌++◌, length}
use Rattle.packet.specs.declared.packet.Packet.{Packet}
use Rattle.packet.specs.Spelling.{IsPacket}
use Rattle.ballot_base.specs.declared.config.Config.{Config}
use Rattle.broker_spec.specs.declared.command.Command.{Command}
use Rattle.broker_spec.specs.Place.{Client}
use Rattle.lists.specs.Lists.{Each, IsPrefixOf}
use Rattle.exactly_once.specs.Sides.{ClientConnection}
use Rattle.agreement.specs.cut_logs.Moments.{IsAgreed}
use Rattle.headline.specs.node_moves.Ends.{packet_commands_from}
use Rattle.headline.specs.node_moves.Puts.{spelled}
use Rattle.headline.specs.node_group.Group.{moment_of_nodes}
use Rattle.headline.specs.node_group.Steps.{all_proposed, groups_on_trace}
use Rattle.headline.specs.node_group.Order.{packet_commands as packets_in_list}
use Rattle.headline.specs.node_group.GroupMoments.{HasMoments}
use Rattle.headline.specs.node_group.Carried.{answers_to}
use Rattle.headline.specs.byte_world.Carried.{trace_of}
use Rattle.headline.specs.byte_world.World.{ClientPipes, HasPipe, Pipe, ByteWorld, packets_of}
use Rattle.headline.specs.byte_world.Steps.{Reached}

-- A connection's commands in the list are a prefix of the packets that its client wrote, in order.
-- The packets that its client handled, encoded, with the bytes that came to it after them and those
-- in transit to it, are a prefix of the encoded answers to it, and no fault was found in them.
pub record IsInOrder (agreed : List Command) (connection : ClientConnection)
    (pipe : Pipe) : Type 0 where
  pub up : IsPrefixOf (packets_in_list connection.name agreed)
      (packet_commands_from connection.name 0 (packets_of connection.written))
  pub handled : List Packet
  pub counted : length handled ≡ connection.handled
  pub whole : Each IsPacket handled
  pub down : IsPrefixOf (spelled handled ++ (pipe.came.bytes ++ pipe.down))
      (answers_to connection.name agreed)
  pub sound : pipe.came.failed ≡ false

-- each connection of each client is in order, by the list on which the nodes agree at the end of
-- the group's steps on the way to the world
pub record PipesAreInOrder {nodes : ℕ} {config : Config} {clients : List Client} {world : ByteWorld}
    (trail : Reached nodes config clients world) : Type 0 where
  pub of : HasMoments config world.group (groups_on_trace (trace_of trail))
      (all_proposed (trace_of trail))
  pub each : (agreed : List Command) →
      IsAgreed config (moment_of_nodes world.group ∷ of.earlier) agreed →
      (index : ℕ) (client : ClientPipes) (nth : ℕ) (connection : ClientConnection)
      (pipe : Pipe) → HasPipe world index client nth connection pipe →
      IsInOrder agreed connection pipe

-- in each world that can be reached the connections of each client are in order
abbrev pub PipesCarryInOrder : Type 0
PipesCarryInOrder =
    (nodes : ℕ) (config : Config) (clients : List Client) (world : ByteWorld)
    (trail : Reached nodes config clients world) → PipesAreInOrder trail
