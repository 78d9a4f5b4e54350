-- What may happen in a world of clients and nodes.
use Rattle.std.specs.Prelude.{◌≡◌, ◌≤◌, ◌<◌, ℕ, suc, Bool, true, false, List, [], ◌∷◌, ◌++◌, length, take, set, Some, slice_get}
use Rattle.packet.specs.declared.packet.Packet.{Packet}
use Rattle.broker_spec.specs.Connection.{ConnectionName}
use Rattle.broker_spec.specs.Place.{Client, Limits}
use Rattle.broker_spec.specs.Commands.{past_of, usual_limits}
use Rattle.broker_spec.specs.AnswersInOrder.{answers_of}
use Rattle.broker_spec.specs.declared.command.Command.{Command}
use Rattle.broker_spec.specs.declared.command.Command.TheVariants as commands
use Rattle.client_base.specs.Keeper.{Written}
use Rattle.client_base.specs.Connected.{new_connection}
use Rattle.client_base.specs.Handled.{packet_handled, lost}
use Rattle.exactly_once.specs.Sends.{sends_to}
use Rattle.exactly_once.specs.Sides.{ClientConnection, Side}
use Rattle.exactly_once.specs.Story.{Story, StoryStep}
use Rattle.exactly_once.specs.StoryCommands.{command_of, with_one_counted}
use Rattle.exactly_once.specs.Story.StoryStep.{takes, others_take, receives, opens_anew, loses, disconnects, publishes_one, subscribes, unsubscribes}
use Rattle.headline.specs.packet_world.World.{End, ClientEnds, PacketWorld, new_end, story_of, opening, IsFresh, with_client}

-- what a client does: it publishes, subscribes, unsubscribes, disconnects, or loses its connection
abbrev pub is_call : {limits : Limits} {before after : Story} → StoryStep limits before after → Bool
is_call (takes index connection written stands next) = false
is_call (others_take command other none) = false
is_call (receives connection others packet are opened next) = false
is_call (opens_anew connection fresh none uncounted) = false
is_call loses = true
is_call disconnects = true
is_call (publishes_one publication needs) = true
is_call (subscribes subscribe on id) = true
is_call (unsubscribes unsubscribe on id) = true

-- whether a command is a packet of some connection, and no loss, start of a ballot or Expel
abbrev pub is_of_connection : Command → Bool
is_of_connection (commands.Connect connection client clean) = true
is_of_connection (commands.Packet connection packet) = true
is_of_connection _ = false

-- the client after a packet that it handled on its newest connection
abbrev pub after_packet : List ClientConnection → List End → Side → ClientEnds
after_packet others ends side =
    record { keeper = side.keeper; connections = side.connection ∷ others; ends = ends }

-- the client opens a connection of this name, at a node that applied this many places
abbrev pub after_opening : ConnectionName → ℕ → ClientEnds → ClientEnds
after_opening name seen client =
    record {
      keeper = record (lost client.keeper) { is_open = true };
      connections = new_connection client.keeper.client name ∷ client.connections;
      ends = new_end seen ∷ client.ends;
    }

-- what a place of the list does to a connection's end
abbrev pub shown : List Command → ConnectionName → Command → End → End
shown agreed name command end =
    record end {
      seen = suc end.seen;
      put = end.put ++ sends_to name
          (answers_of usual_limits (past_of usual_limits (take end.seen agreed)) command);
    }

-- the nth connection of a client, and the node's end of it
pub record HasPipe (world : PacketWorld) (index : ℕ) (client_ends : ClientEnds) (nth : ℕ)
    (client_connection : ClientConnection) (node_end : End) : Type 0 where
  pub client : slice_get world.clients index ≡ Some client_ends
  pub connection : slice_get client_ends.connections nth ≡ Some client_connection
  pub end : slice_get client_ends.ends nth ≡ Some node_end

-- one step of a world
pub data PacketWorldStep (world : PacketWorld) : PacketWorld → Type 0 where
  -- a client calls, or loses its connection
  calls : (index : ℕ) (client : ClientEnds) (after : Story) (step : StoryStep usual_limits
      (story_of world.agreed client) after) → slice_get world.clients index ≡ Some client →
      is_call step ≡ true → PacketWorldStep world (with_client index
      (record client { keeper = after.keeper; connections = after.connections }) world)
  -- a client opens a connection, which gets a name that no connection ever had
  opens : (index : ℕ) (client : ClientEnds) (name : ConnectionName) (seen : ℕ) →
      slice_get world.clients index ≡ Some client → IsFresh name world.clients →
      seen ≤ length world.agreed →
      PacketWorldStep world (with_client index (after_opening name seen client) world)
  -- a client handles the next packet that was sent on the connection that it holds
  handles : (index : ℕ) (client : ClientEnds) (connection : ClientConnection) (end : End)
      (others : List ClientConnection) (ends : List End) (packet : Packet) →
      slice_get world.clients index ≡ Some client → client.connections ≡ connection ∷ others →
      client.ends ≡ end ∷ ends → client.keeper.is_open ≡ true →
      slice_get end.put connection.handled ≡ Some packet →
      PacketWorldStep world (with_client index (after_packet others (end ∷ ends)
      (packet_handled packet (record { keeper = client.keeper; connection = connection }))) world)
  -- a node reads the next packet of an open connection, and proposes it
  reads : (index nth : ℕ) (client : ClientEnds) (connection : ClientConnection) (end : End) →
      HasPipe world index client nth connection end → end.is_open ≡ true →
      end.read < length connection.written → PacketWorldStep world (with_client index
      (record client { ends = set client.ends nth (record end { read = suc end.read }) }) world)
  -- a node applies the next agreed place, and sends what the broker answers on an open connection
  answers : (index nth : ℕ) (client : ClientEnds) (connection : ClientConnection) (end : End)
      (next : Command) → HasPipe world index client nth connection end → end.is_open ≡ true →
      slice_get world.agreed end.seen ≡ Some next → PacketWorldStep world (with_client index
      (record client { ends = set client.ends nth (shown world.agreed connection.name next end) })
      world)
  -- a node's end is closed, alone or with its node
  closes : (index nth : ℕ) (client : ClientEnds) (connection : ClientConnection) (end : End) →
      HasPipe world index client nth connection end → PacketWorldStep world (with_client index
      (record client { ends = set client.ends nth (record end { is_open = false }) }) world)
  -- of what was proposed for a connection, the next comes next in the agreed list
  agrees : (index nth : ℕ) (client : ClientEnds) (connection : ClientConnection) (end : End)
      (written : Written) → HasPipe world index client nth connection end →
      connection.taken < end.read → slice_get connection.written connection.taken ≡ Some written →
      PacketWorldStep world (record {
        agreed = world.agreed ++ command_of connection.name connection.taken written.packet ∷ [];
        clients = set world.clients index
            (record client { connections = with_one_counted nth client.connections });
      })
  -- the loss of a connection, the start of a ballot, or an Expel comes next in the agreed list
  agrees_else : (command : Command) → is_of_connection command ≡ false →
      PacketWorldStep world (record world { agreed = world.agreed ++ command ∷ [] })

-- the worlds that are reached with these clients, by no step or by one more
pub data Reached (clients : List Client) : PacketWorld → Type 0 where
  begins : Reached clients (opening clients)  -- the world opens
  goes_on : {old new : PacketWorld} → Reached clients old → PacketWorldStep old new →
      Reached clients new
