-- Short runs of a world, to their ends: one client of a group of one node connects, and publishes
-- to itself.
use Rattle.std.specs.Prelude.{◌≡◌, Bool, true, false, List, [], ◌∷◌, map, slice_get, Some}
use Rattle.packet.specs.declared.packet.Packet.{Packet}
use Rattle.packet.specs.declared.packet.Packet.TheVariants as packets
use Rattle.ballot_base.specs.declared.config.Config.{Config}
use Rattle.broker_spec.specs.declared.command.Command.{Command}
use Rattle.broker_spec.specs.declared.command.Command.TheVariants as commands
use Rattle.client_base.specs.Keeper.{Own}
use Rattle.session_base.specs.declared.publication.Publication.{Publication}
use Rattle.session_base.specs.Publication.{publish_for}
use Rattle.exactly_once.specs.Acceptance.{accepted_on}
use Rattle.exactly_once.specs.Rows.{asks_for_news, news, writer}
use Rattle.broker_spec.specs.Connection.{first_connection}
use Rattle.world_base.specs.node_core.Core.{CoreState}
use Rattle.headline.specs.byte_world.Steps.{Reached}
use Rattle.headline.specs.byte_world.World.{ClientPipes, ByteWorld}

-- a group of one node
abbrev pub one_node : Config
one_node = record { members = 1 ∷ []; primary = 1 }

-- ---- it connects

-- a CONNACK 0 came to it on the connection that it holds
abbrev pub is_served : ClientPipes → Bool
is_served client = client.keeper.is_online

-- a world is reached in which the client is served
pub record AClientIsServed : Type 0 where
  pub end : ByteWorld
  pub trail : Reached 1 one_node (writer ∷ []) end
  pub served : map is_served end.clients ≡ true ∷ []

-- ---- it publishes

-- a packet on the first connection, as a command
abbrev pub said : Packet → Command
said packet = commands.Packet first_connection packet

-- the list of commands, oldest first
abbrev pub list_done : List Command
list_done =
    commands.Connect first_connection writer false
    ∷ said (packets.Subscribe asks_for_news)
    ∷ said (packets.Publish (publish_for false 1 news))
    ∷ said (packets.Pubrel 1)
    ∷ said (packets.Pubrec 1)
    ∷ said (packets.Pubcomp 1)
    ∷ []

-- what a client accepted at QoS 2, on all of its connections
abbrev pub accepted_by : ClientPipes → List Publication
accepted_by client = accepted_on client.connections

-- what a client published
abbrev pub published_by : ClientPipes → List Own
published_by client = client.keeper.own

-- A world is reached in which the client has subscribed to what it published at QoS 2, both
-- handshakes have ended, it has accepted its publication once, and the node keeps this list.
pub record APublicationIsAccepted : Type 0 where
  pub end : ByteWorld
  pub trail : Reached 1 one_node (writer ∷ []) end
  pub accepted : map accepted_by end.clients ≡ (news ∷ []) ∷ []
  pub done : map published_by end.clients ≡ (Own.Done 0 news ∷ []) ∷ []
  pub core : CoreState
  pub stands : slice_get end.group.nodes 0 ≡ Some core
  pub log : core.replica.state.log ≡ record { base = 0; snapshot = []; rest = list_done }
