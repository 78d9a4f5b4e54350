-- The story of one client: the list of commands, its connections as packets, what it keeps; and its
-- events.
--
-- A story is what remains of a world for one client. Nodes, messages and crashes are hidden in one
-- event: another command comes next in the list. The list only grows, and has each connection's
-- packets in the order of writing; what is sent on a connection are the broker's answers to the
-- list. So what holds for every story holds in each world whose nodes agree on such a list.
use Rattle.std.specs.Prelude.{◌≡◌, ℕ, true, false, if◌then◌else◌, List, [], ◌∷◌, ◌++◌, Some, slice_get}
use Rattle.packet.specs.declared.subscribe.Subscribe.{Subscribe}
use Rattle.packet.specs.declared.unsubscribe.Unsubscribe.{Unsubscribe}
use Rattle.packet.specs.declared.packet.Packet.{Packet}
use Rattle.packet.specs.declared.packet.Packet.TheVariants as packets
use Rattle.session_base.specs.declared.publication.Publication.{Publication}
use Rattle.session_base.specs.Publication.{is_answered}
use Rattle.session_base.specs.Identifiers.{least_free}
use Rattle.broker_spec.specs.Connection.{ConnectionName, same_connection}
use Rattle.broker_spec.specs.Place.{Client, Past, Limits}
use Rattle.broker_spec.specs.Commands.{place_of}
use Rattle.broker_spec.specs.declared.command.Command.{Command}
use Rattle.exactly_once.specs.Sends.{put_to}
use Rattle.client_base.specs.Keeper.{Written, Keeper, new_keeper, ids_in_use}
use Rattle.client_base.specs.declared.request.Request.TheVariants as requests
use Rattle.exactly_once.specs.Sides.{ClientConnection, Side}
use Rattle.client_base.specs.Written.{plain}
use Rattle.client_base.specs.Handled.{packet_handled, lost}
use Rattle.client_base.specs.Called.{adds_own, written_for}
use Rattle.client_base.specs.Connected.{new_connection}
use Rattle.client_base.specs.Written.{writes_first}
use Rattle.exactly_once.specs.StoryCommands.{command_of, with_one_counted, names_client, is_packet_of, packet_count, any_named}

-- the connections are newest first; the client holds the first one while it is open
pub record Story : Type 0 where
  pub past : Past
  pub connections : List ClientConnection
  pub keeper : Keeper

-- a client's story before anything has happened
abbrev pub no_story : Client → Story
no_story client = record { past = []; connections = []; keeper = new_keeper client }

-- ---- the client

-- the story with another state of the client and of its newest connection
abbrev pub with_side : Story → List ClientConnection → Side → Story
with_side story others side =
    record { past = story.past; connections = side.connection ∷ others; keeper = side.keeper }

-- ---- what may happen

-- One step of a client's story. It allows more than a world does: any connection's next packet may
-- come next in the list, and any client may be lost at any time.
pub data StoryStep (limits : Limits) (story : Story) : Story → Type 0 where
  -- the next packet that the client wrote on one of its connections comes next in the list
  takes : (index : ℕ) (connection : ClientConnection) (written : Written) →
      slice_get story.connections index ≡ Some connection →
      slice_get connection.written connection.taken ≡ Some written →
      StoryStep limits story (record {
        past = place_of limits story.past
            (command_of connection.name connection.taken written.packet) ∷ story.past;
        connections = with_one_counted index story.connections;
        keeper = story.keeper;
      })
  -- a command that does not concern the client comes next, and no packet of its connections
  others_take : (command : Command) → (names_client story.past story.keeper.client command → ⊥) →
      any_named (is_packet_of command) story.connections ≡ false →
      StoryStep limits story
      (record story { past = place_of limits story.past command ∷ story.past })
  -- the client handles the next packet that was sent on the connection that it holds
  receives : (connection : ClientConnection) (others : List ClientConnection) (packet : Packet) →
      story.connections ≡ connection ∷ others → story.keeper.is_open ≡ true →
      slice_get (put_to limits story.past connection.name) connection.handled ≡ Some packet →
      StoryStep limits story
      (with_side story others
      (packet_handled packet (record { keeper = story.keeper; connection = connection })))
  -- it opens a connection with a name of which nothing is in the list or was sent
  opens_anew : (connection : ConnectionName) →
      any_named (same_connection connection) story.connections ≡ false →
      put_to limits story.past connection ≡ [] → packet_count connection story.past ≡ 0 →
      StoryStep limits story (record {
        past = story.past;
        connections = new_connection story.keeper.client connection ∷ story.connections;
        keeper = record (lost story.keeper) { is_open = true };
      })
  -- it loses its connection
  loses : StoryStep limits story (record story { keeper = lost story.keeper })
  -- it ends its connection, with a DISCONNECT if it is online (MQTT 3.14)
  disconnects : StoryStep limits story (record {
    past = story.past;
    connections = if story.keeper.is_online
        then writes_first (plain packets.Disconnect ∷ []) story.connections else story.connections;
    keeper = lost story.keeper;
  })
  -- it publishes; at QoS 0 only if it is online
  publishes_one : (publication : Publication) →
      (is_answered publication.qos ≡ false → story.keeper.is_online ≡ true) →
      StoryStep limits story (record {
        past = story.past;
        connections = writes_first (written_for publication story.keeper) story.connections;
        keeper = adds_own publication story.keeper;
      })
  -- it subscribes, by the least identifier that is free (MQTT 3.8)
  subscribes : (subscribe : Subscribe) → story.keeper.is_online ≡ true →
      subscribe.id ≡ least_free (ids_in_use story.keeper) →
      StoryStep limits story (record {
        past = story.past;
        connections = writes_first (plain (packets.Subscribe subscribe) ∷ []) story.connections;
        keeper = record story.keeper {
          requests = story.keeper.requests ++ requests.Subscribes subscribe.id ∷ [];
        };
      })
  -- it unsubscribes, by the least identifier that is free (MQTT 3.10)
  unsubscribes : (unsubscribe : Unsubscribe) → story.keeper.is_online ≡ true →
      unsubscribe.id ≡ least_free (ids_in_use story.keeper) →
      StoryStep limits story (record {
        past = story.past;
        connections = writes_first (plain (packets.Unsubscribe unsubscribe) ∷ []) story.connections;
        keeper = record story.keeper {
          requests = story.keeper.requests ++ requests.Unsubscribes unsubscribe.id ∷ [];
        };
      })
