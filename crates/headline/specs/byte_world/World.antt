-- Clients and a group of nodes, with a pipe of bytes in each direction of every connection.
use Rattle.std.specs.Prelude.{◌≡◌, ℕ, ◌==◌, Bool, ◌&&◌, List, [], ◌∷◌, ◌++◌, map, drop, length, set, slice_get, Some}
use Rattle.std.specs.List.{list_any}
use Rattle.packet.specs.declared.packet.Packet.{Packet}
use Rattle.cutter.specs.Stream.{Stream}
use Rattle.ballot_base.specs.declared.config.Config.{Config}
use Rattle.broker_spec.specs.Place.{Client}
use Rattle.client_base.specs.Keeper.{Keeper, Written, new_keeper}
use Rattle.exactly_once.specs.Sides.{ClientConnection}
use Rattle.world_base.specs.declared.node_connections.port.Port.{Port}
use Rattle.headline.specs.node_moves.Puts.{spelled}
use Rattle.headline.specs.node_group.Group.{Group, opening_group}

-- where a connection leads, and the bytes in transit
pub record Pipe : Type 0 where
  pub node : ℕ  -- the index of its node in the group
  pub port : Port  -- by which the node knows it
  pub up : List ℕ  -- the client wrote them, and they have not yet reached the node
  pub down : List ℕ  -- the node handed them over, and they have not yet reached the client
  pub came : Stream  -- they came to the client, and are not cut into packets yet

-- a client with its connections, the newest first, and their pipes in the same order; how much of a
-- connection is in the list of commands is not kept here
pub record ClientPipes : Type 0 where
  pub keeper : Keeper
  pub connections : List ClientConnection
  pub pipes : List Pipe

-- a group of nodes, and its clients with their connections and pipes
pub record ByteWorld : Type 0 where
  pub group : Group
  pub clients : List ClientPipes

-- ---- as it opens

-- a client that has no connection yet
abbrev pub new_client : Client → ClientPipes
new_client client = record { keeper = new_keeper client; connections = []; pipes = [] }

-- a group as it opens, with numbers up to a greatest one, and clients without connections
abbrev pub opening : ℕ → ℕ → Config → List Client → ByteWorld
opening greatest nodes config clients =
    record { group = opening_group greatest nodes config; clients = map new_client clients }

-- ---- places

-- the nth connection of the client at an index, and its pipe
pub record HasPipe (world : ByteWorld) (index : ℕ) (client_pipes : ClientPipes) (nth : ℕ)
    (client_connection : ClientConnection) (connection_pipe : Pipe) : Type 0 where
  pub client : slice_get world.clients index ≡ Some client_pipes
  pub connection : slice_get client_pipes.connections nth ≡ Some client_connection
  pub pipe : slice_get client_pipes.pipes nth ≡ Some connection_pipe

-- whether a pipe leads to this port of this node
abbrev pub leads_to : ℕ → Port → Pipe → Bool
leads_to node port pipe = (pipe.node == node) && (pipe.port.0 == port.0)

-- whether any client's connection leads to this port of this node
abbrev pub is_used : ℕ → Port → List ClientPipes → Bool
is_used node port = list_any (λ (client : ClientPipes). list_any (leads_to node port) client.pipes)

-- ---- changes

-- the world with this client at an index
abbrev pub with_client : ℕ → ClientPipes → ByteWorld → ByteWorld
with_client index client world = record world { clients = set world.clients index client }

-- the client with this pipe at an index
abbrev pub with_pipe : ℕ → Pipe → ClientPipes → ClientPipes
with_pipe index pipe client = record client { pipes = set client.pipes index pipe }

-- the packets that were written, without the numbers of their publications
abbrev pub packets_of : List Written → List Packet
packets_of written = map (λ (one : Written). one.packet) written

-- the packets that were written on the newest connection between these connections and those
abbrev pub newly_written : List ClientConnection → List ClientConnection → List Packet
newly_written (connection ∷ connections) (later ∷ more) =
    packets_of (drop (length connection.written) later.written)
newly_written _ _ = []

-- the bytes of these packets go into the pipe of the newest connection
abbrev pub sent_up : List Packet → List Pipe → List Pipe
sent_up packets (pipe ∷ pipes) = record pipe { up = pipe.up ++ spelled packets } ∷ pipes
sent_up packets [] = []

-- the client with another keeper and these connections, what was written on the newest one in
-- transit
abbrev pub after_writing : Keeper → List ClientConnection → ClientPipes → ClientPipes
after_writing keeper connections client =
    record {
      keeper = keeper;
      connections = connections;
      pipes = sent_up (newly_written client.connections connections) client.pipes;
    }
