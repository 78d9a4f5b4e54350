-- How a client with its history opens and ends a connection.
use Rattle.std.specs.Prelude.{ℕ, true, false, if◌then◌else◌, List, [], ◌∷◌}
use Rattle.packet.specs.declared.packet.Packet.TheVariants as packets
use Rattle.client_base.specs.Keeper.{Written, ClientConnection, Keeper, Side}
use Rattle.client_base.specs.Written.{plain}
use Rattle.client_base.specs.Handled.{lost, packet_handled}

-- CONNECT with CleanSession 0 and this keep alive
abbrev pub written_connect : ℕ → List ℕ → Written
written_connect keep_alive client =
    plain (packets.Connect (record { client = client; clean = false; keep_alive = keep_alive }))

-- with keep alive 0, as the clients of the headline theorem have it
abbrev pub opening_connect : List ℕ → Written
opening_connect = written_connect 0

-- a new connection of a client, on which only a CONNECT was written
abbrev pub new_connection : {Name : Type 0} → List ℕ → Name → ClientConnection Name
new_connection client name =
    record {
      name = name;
      written = opening_connect client ∷ [];
      taken = 0;
      handled = 0;
      confirmed = false;
      accepted = [];
    }

-- a client that opens a connection with this keep alive: what it keeps stays, its requests end
abbrev pub opened : {Name : Type 0} → ℕ → Name → Keeper → Side Name
opened keep_alive name keeper =
    record {
      keeper = record (lost keeper) { is_open = true };
      connection =
          record (new_connection keeper.client name)
          { written = written_connect keep_alive keeper.client ∷ [] };
    }

-- what a disconnecting client writes: DISCONNECT if it is online
abbrev pub disconnects : Keeper → List Written
disconnects keeper = if keeper.is_online then plain packets.Disconnect ∷ [] else []
