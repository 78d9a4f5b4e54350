-- What may happen in a world of clients and a group of nodes.
use Rattle.std.specs.Prelude.{◌≡◌, ℕ, true, false, List, ◌∷◌, ◌++◌, Option, Some, None, Ok, slice_get}
use Rattle.packet.specs.Spelling.{IsPacket}
use Rattle.packet.specs.declared.packet.Packet.{Packet}
use Rattle.packet.specs.declared.packet.Packet.TheVariants as packets
use Rattle.cutter.specs.Stream.{Stream, Takes}
use Rattle.ballot_base.specs.declared.config.Config.{Config}
use Rattle.agreement.specs.World.{can_open}
use Rattle.broker_spec.specs.Commands.{usual_limits}
use Rattle.broker_spec.specs.Place.{Client}
use Rattle.client_base.specs.Handled.{packet_handled}
use Rattle.exactly_once.specs.Sides.{ClientConnection}
use Rattle.exactly_once.specs.Story.{Story, StoryStep}
use Rattle.headline.specs.packet_world.Steps.{is_call}
use Rattle.world_base.specs.declared.node_connections.connection.Connection.{Connection as NodesEnd}
use Rattle.world_base.specs.declared.node_connections.port.Port.{Port}
use Rattle.world_base.specs.declared.node_core.item.Item.TheVariants.{Opened, Bytes}
use Rattle.world_base.specs.node_core.Core.{CoreState}
use Rattle.world_base.specs.node_core.PortOutput.{listed_at}
use Rattle.headline.specs.node_moves.Moves.{NodeCall}
use Rattle.headline.specs.node_moves.Moves.NodeCall.{takes, hands_out}
use Rattle.headline.specs.node_group.Streams.{goes_down as goes_down_in}
use Rattle.headline.specs.byte_world.ClientSteps.{story_alone, after_connecting, after_packet, WritesCanBeSpelled}
pub use Rattle.headline.specs.byte_world.Transport.{CarriesItsBytes, DoesCall, IsFaithful, coming_with, node_call_of, going_with, is_apart}
use Rattle.headline.specs.byte_world.World.{ClientPipes, HasPipe, Pipe, ByteWorld, after_writing, is_used, opening, with_client, with_pipe}

-- ---- the step

-- Any of these may happen, or not, at any time: so bytes, messages and connections may come late,
-- or never. Bytes on one connection do not overtake each other.
pub data ByteWorldStep (world : ByteWorld) : ByteWorld → Type 0 where
  -- the nodes and the master move by themselves: messages come late, again or never, a node ticks
  -- or crashes, a stream ends at its node, an administrator asks for a configuration
  group_goes : (node_call : Option (ℕ × NodeCall)) (done : DoesCall world.group node_call) →
      is_apart node_call ≡ true → ByteWorldStep world (record world { group = done.after })
  -- a client calls, or loses its connection
  calls : (index : ℕ) (client : ClientPipes) (after : Story)
      (step : StoryStep usual_limits (story_alone client) after) →
      slice_get world.clients index ≡ Some client → is_call step ≡ true →
      WritesCanBeSpelled client.connections after.connections →
      ByteWorldStep world
      (with_client index (after_writing after.keeper after.connections client) world)
  -- a client opens a connection to a node, at a port that was never used there, and the node takes
  -- it
  connects : (index node : ℕ) (client : ClientPipes) (port : Port) (now : ℕ)
      (done : DoesCall world.group (Some (node, takes (Opened port now)))) (core : CoreState)
      (end : NodesEnd) →
      slice_get world.clients index ≡ Some client → is_used node port world.clients ≡ false →
      slice_get done.after.nodes node ≡ Some core → listed_at port core ≡ Some end →
      IsPacket (packets.Connect
      (record { client = client.keeper.client; clean = false; keep_alive = 0 })) →
      ByteWorldStep world (with_client index (after_connecting end.name node port client)
      (record world { group = done.after }))
  -- the node does not take it, because memory ran out, and then the client has none
  is_taken_back : (node : ℕ) (port : Port) (now : ℕ)
      (done : DoesCall world.group (Some (node, takes (Opened port now)))) (core : CoreState) →
      is_used node port world.clients ≡ false →
      slice_get done.after.nodes node ≡ Some core → listed_at port core ≡ None →
      ByteWorldStep world (record world { group = done.after })
  -- a prefix of the bytes in transit reaches the node
  comes_up : (index nth : ℕ) (client : ClientPipes) (connection : ClientConnection) (pipe : Pipe)
      (piece rest : List ℕ) (now : ℕ)
      (done : DoesCall world.group (Some (pipe.node, takes (Bytes pipe.port piece now)))) →
      HasPipe world index client nth connection pipe → pipe.up ≡ piece ++ rest →
      ByteWorldStep world
      (with_client index (with_pipe nth (record pipe { up = rest }) client)
      (record world { group = done.after }))
  -- a node hands over what it queued
  goes_down : (index nth : ℕ) (client : ClientPipes) (connection : ClientConnection) (pipe : Pipe)
      (done : DoesCall world.group (Some (pipe.node, hands_out pipe.port))) →
      HasPipe world index client nth connection pipe →
      ByteWorldStep world (with_client index
      (with_pipe nth
      (record pipe { down = pipe.down ++ goes_down_in connection.name done.step }) client)
      (record world { group = done.after }))
  -- a prefix of the bytes in transit reaches the client
  arrives : (index nth : ℕ) (client : ClientPipes) (connection : ClientConnection) (pipe : Pipe)
      (piece rest : List ℕ) →
      HasPipe world index client nth connection pipe → pipe.down ≡ piece ++ rest →
      ByteWorldStep world (with_client index
      (with_pipe nth
      (record pipe { down = rest; came = record pipe.came { bytes = pipe.came.bytes ++ piece } })
      client) world)
  -- a client handles the next packet that came whole on the connection that it holds
  handles : (index : ℕ) (client : ClientPipes) (connection : ClientConnection)
      (others : List ClientConnection) (pipe : Pipe) (pipes : List Pipe) (packet : Packet)
      (left : Stream) →
      slice_get world.clients index ≡ Some client → client.connections ≡ connection ∷ others →
      client.pipes ≡ pipe ∷ pipes → client.keeper.is_open ≡ true →
      Takes pipe.came (Ok (Some packet)) left →
      WritesCanBeSpelled client.connections
      ((packet_handled packet
      (record { keeper = client.keeper; connection = connection })).connection ∷ others) →
      ByteWorldStep world (with_client index
      (after_packet others pipes pipe left
      (packet_handled packet (record { keeper = client.keeper; connection = connection })) client)
      world)

-- the worlds that are reached with this many nodes, a configuration at first, and these clients
pub data Reached (nodes : ℕ) (config : Config) (clients : List Client) : ByteWorld → Type 0 where
  -- the world opens
  begins : (greatest : ℕ) → can_open greatest nodes config ≡ true →
      Reached nodes config clients (opening greatest nodes config clients)
  -- one more step
  goes_on : {old new : ByteWorld} → Reached nodes config clients old → ByteWorldStep old new →
      Reached nodes config clients new
