-- Clients and nodes as the two ends of their connections, over the list of commands that the nodes
-- agree on.
use Rattle.std.specs.Prelude.{◌≡◌, ℕ, Bool, true, false, List, [], ◌∷◌, map, set}
use Rattle.packet.specs.declared.packet.Packet.{Packet}
use Rattle.broker_spec.specs.Connection.{ConnectionName, same_connection}
use Rattle.broker_spec.specs.Place.{Client}
use Rattle.broker_spec.specs.Commands.{past_of, usual_limits}
use Rattle.broker_spec.specs.declared.command.Command.{Command}
use Rattle.lists.specs.Lists.{Each}
use Rattle.client_base.specs.Keeper.{Keeper, new_keeper}
use Rattle.exactly_once.specs.Sides.{ClientConnection}
use Rattle.exactly_once.specs.Story.{Story}
use Rattle.exactly_once.specs.StoryCommands.{any_named}

-- the node's end of a connection
pub record End : Type 0 where
  pub read : ℕ  -- how many packets it read from the connection and proposed as commands
  pub seen : ℕ  -- how many places of the agreed list its node applied
  pub put : List Packet  -- what it sent on the connection
  pub is_open : Bool

-- an end as it opens, at a node that applied this many places of the list
abbrev pub new_end : ℕ → End
new_end seen = record { read = 0; seen = seen; put = []; is_open = true }

-- a client with its connections, the newest first, and the nodes' ends of these in the same order
pub record ClientEnds : Type 0 where
  pub keeper : Keeper
  pub connections : List ClientConnection
  pub ends : List End

-- a client that has no connection yet
abbrev pub new_client : Client → ClientEnds
new_client client = record { keeper = new_keeper client; connections = []; ends = [] }

-- the list on which the nodes agree, and the clients with both ends of their connections
pub record PacketWorld : Type 0 where
  pub agreed : List Command
  pub clients : List ClientEnds

-- nothing is agreed, and no client has a connection
abbrev pub opening : List Client → PacketWorld
opening clients = record { agreed = []; clients = map new_client clients }

-- no two are equal
abbrev pub ClientsAreApart : List Client → Type 0
ClientsAreApart (client ∷ clients) =
    Each (λ other. client ≡ other → ⊥) clients × ClientsAreApart clients
ClientsAreApart [] = Unit {0}

-- the story of one client of the world
abbrev pub story_of : List Command → ClientEnds → Story
story_of agreed client =
    record {
      past = past_of usual_limits agreed;
      connections = client.connections;
      keeper = client.keeper;
    }

-- no connection ever had this name
abbrev pub IsFresh : ConnectionName → List ClientEnds → Type 0
IsFresh name =
    Each (λ (client : ClientEnds). any_named (same_connection name) client.connections ≡ false)

-- the client at this index is changed
abbrev pub with_client : ℕ → ClientEnds → PacketWorld → PacketWorld
with_client index client world = record world { clients = set world.clients index client }
