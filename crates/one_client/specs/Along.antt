-- One client beside a group of nodes: what it does between the steps of the group, and what of it
-- reaches the nodes. Everything else that the nodes take may come from anybody.
use Rattle.std.specs.Prelude.{◌≡◌, ℕ, true, false, List, [], ◌∷◌, ◌++◌, drop, length, map, Some, Ok, slice_get}
use Rattle.lists.specs.Lists.{Each, IsPrefixOf}
use Rattle.packet.specs.Spelling.{IsPacket}
use Rattle.packet.specs.declared.packet.Packet.{Packet}
use Rattle.packet.specs.declared.packet.Packet.TheVariants as packets
use Rattle.cutter.specs.Stream.{Stream, Takes}
use Rattle.ballot_base.specs.declared.config.Config.{Config}
use Rattle.agreement.specs.World.{can_open}
use Rattle.broker_spec.specs.Commands.{usual_limits}
use Rattle.broker_spec.specs.Connection.{ConnectionName, same_connection}
use Rattle.broker_spec.specs.Place.{Client}
use Rattle.session_base.specs.declared.publication.Publication.{Publication}
use Rattle.client_base.specs.Handled.{packet_handled}
use Rattle.exactly_once.specs.Sides.{ClientConnection}
use Rattle.exactly_once.specs.Story.{Story, StoryStep}
use Rattle.exactly_once.specs.StoryCommands.{any_named}
use Rattle.world_base.specs.declared.node_connections.port.Port.{Port}
use Rattle.headline.specs.packet_world.Steps.{is_call}
use Rattle.headline.specs.node_group.Group.{Group, opening_group}
use Rattle.headline.specs.node_group.Steps.{GroupStep, GroupTrace}
use Rattle.headline.specs.node_group.Steps.GroupTrace.{opened, then_went}
use Rattle.headline.specs.byte_world.ClientSteps.{WritesCanBeSpelled, after_connecting, after_packet, story_alone}
use Rattle.headline.specs.byte_world.Published.{published_by_call}
use Rattle.headline.specs.byte_world.Transport.{IsFaithful, node_call_of}
use Rattle.headline.specs.byte_world.World.{ClientPipes, Pipe, after_writing, new_client, with_pipe}
use Rattle.one_client.specs.Calls.{BringsBytes, TookNothing, bytes_at, handed_at, opens_at, was_opened}

-- What a node takes at the port of the client's connection: it is told once that the connection was
-- opened, and the bytes that it takes after that, and only after that, are the next of those that
-- the client wrote and that have not reached it yet.
pub record TakesWritten {nodes : ℕ} {config : Config} {group next : Group}
    (went : GroupTrace nodes config group) (step : GroupStep group next) (pipe : Pipe) :
    Type 0 where
  pub once : opens_at pipe.node pipe.port (node_call_of step) ≡ true →
      was_opened pipe.node pipe.port went ≡ false
  pub after : was_opened pipe.node pipe.port went ≡ false →
      bytes_at pipe.node pipe.port (node_call_of step) ≡ []
  pub written : IsPrefixOf (bytes_at pipe.node pipe.port (node_call_of step)) pipe.up

-- the bytes in transit on a connection after a step of the group
abbrev pub pipe_after : {group next : Group} → GroupStep group next → Pipe → Pipe
pipe_after step pipe =
    record pipe {
      up = drop (length (bytes_at pipe.node pipe.port (node_call_of step))) pipe.up;
      down = pipe.down ++ handed_at pipe.node pipe.port step;
    }

-- the client after a step of the group
abbrev pub after_step : {group next : Group} → GroupStep group next → ClientPipes → ClientPipes
after_step step one = record one { pipes = map (pipe_after step) one.pipes }

-- The steps of a group, and between them what the client does, in the order in which it happened.
-- So what a node takes from the client was written before, and what comes to the client was handed
-- over before. Bytes in transit may be lost at any time: then no more of them come.
pub data Along (nodes : ℕ) (config : Config) (client : Client) :
    (group : Group) → GroupTrace nodes config group → ClientPipes → Type 0 where
  -- the group opens, and the client has no connection
  opens : (greatest : ℕ) (can : can_open greatest nodes config ≡ true) →
      Along nodes config client (opening_group greatest nodes config) (opened greatest can)
      (new_client client)
  -- the group does a step: at the ports of the client's connections it takes what the client wrote,
  -- and at other ports anything
  goes : {group next : Group} {went : GroupTrace nodes config group} {one : ClientPipes} →
      Along nodes config client group went one → (step : GroupStep group next) →
      IsFaithful step → BringsBytes (node_call_of step) → Each (TakesWritten went step) one.pipes →
      Along nodes config client next (then_went went step) (after_step step one)
  -- the client calls, or loses its connection
  calls : {group : Group} {went : GroupTrace nodes config group} {one : ClientPipes} →
      Along nodes config client group went one → (after : Story)
      (step : StoryStep usual_limits (story_alone one) after) → is_call step ≡ true →
      WritesCanBeSpelled one.connections after.connections →
      Along nodes config client group went (after_writing after.keeper after.connections one)
  -- It opens a connection to a port of a node, and writes its CONNECT. The node is told of it
  -- sooner or later, or never, and has not taken bytes there. The list of commands knows the
  -- connection by this name, which none of its others has.
  connects : {group : Group} {went : GroupTrace nodes config group} {one : ClientPipes} →
      Along nodes config client group went one → (name : ConnectionName) (node : ℕ) (port : Port) →
      any_named (same_connection name) one.connections ≡ false → TookNothing node port went →
      IsPacket (packets.Connect
      (record { client = one.keeper.client; clean = false; keep_alive = 0 })) →
      Along nodes config client group went (after_connecting name node port one)
  -- a prefix of the bytes in transit to it on one of its connections comes to it
  reads : {group : Group} {went : GroupTrace nodes config group} {one : ClientPipes} →
      Along nodes config client group went one → (nth : ℕ) (pipe : Pipe) (piece rest : List ℕ) →
      slice_get one.pipes nth ≡ Some pipe → pipe.down ≡ piece ++ rest →
      Along nodes config client group went (with_pipe nth
      (record pipe { down = rest; came = record pipe.came { bytes = pipe.came.bytes ++ piece } })
      one)
  -- it handles the next packet that came whole on the connection that it holds
  handles : {group : Group} {went : GroupTrace nodes config group} {one : ClientPipes} →
      Along nodes config client group went one → (connection : ClientConnection)
      (others : List ClientConnection) (pipe : Pipe) (pipes : List Pipe) (packet : Packet)
      (left : Stream) →
      one.connections ≡ connection ∷ others → one.pipes ≡ pipe ∷ pipes →
      one.keeper.is_open ≡ true → Takes pipe.came (Ok (Some packet)) left →
      WritesCanBeSpelled one.connections
      ((packet_handled packet
      (record { keeper = one.keeper; connection = connection })).connection ∷ others) →
      Along nodes config client group went (after_packet others pipes pipe left
      (packet_handled packet (record { keeper = one.keeper; connection = connection })) one)

-- what the client was asked to publish, the oldest first
abbrev pub published_along : {nodes : ℕ} {config : Config} {client : Client} {group : Group}
    {went : GroupTrace nodes config group} {one : ClientPipes} →
    Along nodes config client group went one → List Publication
published_along (opens greatest can) = []
published_along (goes along step faithful brings takes) = published_along along
published_along (calls along after step call spelled) =
    published_along along ++ published_by_call step
published_along (connects along name node port other nothing spelled) = published_along along
published_along (reads along nth pipe piece rest at is) = published_along along
published_along
    (handles along connection others pipe pipes packet left are piped is_open cut spelled) =
    published_along along
