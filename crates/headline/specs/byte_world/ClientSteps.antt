-- What a client does in a world: the client after it opened a connection, or handled a packet.
use Rattle.std.specs.Prelude.{ℕ, true, false, List, [], ◌∷◌}
use Rattle.packet.specs.Spelling.{IsPacket}
use Rattle.cutter.specs.Stream.{Stream}
use Rattle.broker_spec.specs.Connection.{ConnectionName}
use Rattle.client_base.specs.Connected.{new_connection}
use Rattle.client_base.specs.Handled.{lost}
use Rattle.lists.specs.Lists.{Each}
use Rattle.exactly_once.specs.Sides.{ClientConnection, Side}
use Rattle.exactly_once.specs.Story.{Story}
use Rattle.world_base.specs.declared.node_connections.port.Port.{Port}
use Rattle.headline.specs.node_moves.Puts.{spelled}
use Rattle.headline.specs.byte_world.World.{ClientPipes, Pipe, newly_written, packets_of, sent_up}

-- what may happen to a client when it calls does not depend on the list of commands
abbrev pub story_alone : ClientPipes → Story
story_alone client = record { past = []; connections = client.connections; keeper = client.keeper }

-- a client opens a connection of this name, to a port of a node: its CONNECT is in transit
abbrev pub after_connecting : ConnectionName → ℕ → Port → ClientPipes → ClientPipes
after_connecting name node port client =
    record {
      keeper = record (lost client.keeper) { is_open = true };
      connections = new_connection client.keeper.client name ∷ client.connections;
      pipes = record {
        node = node;
        port = port;
        up = spelled (packets_of (new_connection client.keeper.client name).written);
        down = [];
        came = record { bytes = []; failed = false };
      } ∷ client.pipes;
    }

-- the client after a packet that its newest connection's cutter returned
abbrev pub after_packet : List ClientConnection → List Pipe → Pipe → Stream → Side → ClientPipes →
    ClientPipes
after_packet others pipes pipe left side client =
    record {
      keeper = side.keeper;
      connections = side.connection ∷ others;
      pipes = sent_up (newly_written client.connections (side.connection ∷ others))
          (record pipe { came = left } ∷ pipes);
    }

-- all that clients write can be encoded
abbrev pub WritesCanBeSpelled : List ClientConnection → List ClientConnection → Type 0
WritesCanBeSpelled before after = Each IsPacket (newly_written before after)
