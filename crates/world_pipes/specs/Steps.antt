-- What one client of a world does without the nodes.
use Rattle.std.specs.Prelude.{◌≡◌, ℕ, true, List, [], ◌∷◌, ◌++◌, Some, Ok, slice_get}
use Rattle.packet.specs.declared.packet.Packet.{Packet}
use Rattle.cutter.specs.Stream.{Stream, Takes}
use Rattle.broker_spec.specs.Commands.{usual_limits}
use Rattle.session_base.specs.declared.publication.Publication.{Publication}
use Rattle.client_base.specs.Handled.{packet_handled}
use Rattle.exactly_once.specs.Sides.{ClientConnection}
use Rattle.exactly_once.specs.Story.{Story, StoryStep}
use Rattle.headline.specs.packet_world.Steps.{is_call}
use Rattle.headline.specs.byte_world.World.{ClientPipes, Pipe, ByteWorld, after_writing, with_client, with_pipe}
use Rattle.headline.specs.byte_world.Steps.{ByteWorldStep}
use Rattle.headline.specs.byte_world.ClientSteps.{WritesCanBeSpelled, after_packet, story_alone}
use Rattle.headline.specs.byte_world.Published.{from_client, published_by_call, published_in_step}

-- a step of a world, as the client that takes it sees it
pub data ClientStep (client : ClientPipes) : ClientPipes → Type 0 where
  -- it calls, or loses its connection
  calls : (after : Story) (step : StoryStep usual_limits (story_alone client) after) →
      is_call step ≡ true →
      WritesCanBeSpelled client.connections after.connections →
      ClientStep client (after_writing after.keeper after.connections client)
  -- a prefix of the bytes in transit reaches it
  arrives : (nth : ℕ) (connection : ClientConnection) (pipe : Pipe) (piece rest : List ℕ) →
      slice_get client.connections nth ≡ Some connection → slice_get client.pipes nth ≡ Some pipe →
      pipe.down ≡ piece ++ rest →
      ClientStep client
      (with_pipe nth
      (record pipe { down = rest; came = record pipe.came { bytes = pipe.came.bytes ++ piece } })
      client)
  -- it handles the next packet that came whole on the connection that it holds
  handles : (connection : ClientConnection) (others : List ClientConnection) (pipe : Pipe)
      (pipes : List Pipe)
      (packet : Packet) (left : Stream) → client.connections ≡ connection ∷ others →
      client.pipes ≡ pipe ∷ pipes → client.keeper.is_open ≡ true →
      Takes pipe.came (Ok (Some packet)) left →
      WritesCanBeSpelled client.connections
      ((packet_handled packet
      (record { keeper = client.keeper; connection = connection })).connection ∷ others) →
      ClientStep client
      (after_packet others pipes pipe left
      (packet_handled packet (record { keeper = client.keeper; connection = connection })) client)

-- steps of a client, one after another
pub data ClientTrace (client : ClientPipes) : ClientPipes → Type 0 where
  -- no step
  stays : ClientTrace client client
  -- one more step
  goes_on : {before after : ClientPipes} →
      ClientTrace client before → ClientStep before after → ClientTrace client after

-- ---- what it publishes

-- what a client publishes in a step
abbrev pub published_with : {client next : ClientPipes} → ClientStep client next → List Publication
published_with (ClientStep.calls after step is spelled) = published_by_call step
published_with
    (ClientStep.arrives nth client_connection client_pipe piece rest connection pipe down) = []
published_with
    (ClientStep.handles connection others client_pipe pipes packet left connections are up cut
    spelled) = []

-- what a client publishes in steps, one after another, the oldest first
abbrev pub published_in_steps : {client next : ClientPipes} → ClientTrace client next →
    List Publication
published_in_steps ClientTrace.stays = []
published_in_steps (ClientTrace.goes_on goes step) = published_in_steps goes ++ published_with step

-- ---- in a world

-- a client's step is a step of the world in which it is a client, and what it publishes is
-- published there
pub record StepsIn (world : ByteWorld) (index : ℕ) {client next : ClientPipes}
    (step : ClientStep client next) : Type 0 where
  pub is : ByteWorldStep world (with_client index next world)
  pub published : published_in_step is ≡ from_client index (published_with step)

-- each step of each client is a step of its world
abbrev pub ClientsStepInWorlds : Type 0
ClientsStepInWorlds =
    (world : ByteWorld) (index : ℕ) (client next : ClientPipes) →
    slice_get world.clients index ≡ Some client →
    (step : ClientStep client next) → StepsIn world index step
