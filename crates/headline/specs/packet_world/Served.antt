-- How the agreed list of a world continues if nodes agree: what is said about a later list, and
-- that a world comes to it.
use Rattle.std.specs.Prelude.{◌≡◌, ℕ, true, List, map, filter, take}
use Rattle.broker_spec.specs.Place.{Client}
use Rattle.broker_spec.specs.declared.command.Command.{Command}
use Rattle.lists.specs.Lists.{In, IsPrefixOf}
use Rattle.exactly_once.specs.Sides.{ClientConnection}
use Rattle.exactly_once.specs.StoryCommands.{is_packet_of}
use Rattle.headline.specs.packet_world.World.{End, ClientEnds, PacketWorld, ClientsAreApart}
use Rattle.headline.specs.packet_world.Steps.{HasPipe, Reached, is_of_connection}
use Rattle.headline.specs.packet_world.Exact.{commands_from}

-- a command is of a connection of the world
pub record IsOfPipe (world : PacketWorld) (command : Command) : Type 0 where
  pub index : ℕ
  pub nth : ℕ
  pub client : ClientEnds
  pub connection : ClientConnection
  pub end : End
  pub pipe : HasPipe world index client nth connection end
  pub named : is_packet_of command connection.name ≡ true

-- The list only grew; for each connection it has a prefix of the packets that the node read and
-- proposed, in order; and it has packets only of connections of the world.
pub record ServesWorld (world : PacketWorld) (later : List Command) : Type 0 where
  pub grows : IsPrefixOf world.agreed later
  pub order : (index nth : ℕ) (client : ClientEnds) (connection : ClientConnection)
      (end : End) → HasPipe world index client nth connection end →
      IsPrefixOf (filter (λ command. is_packet_of command connection.name) later)
      (commands_from connection.name 0 (take end.read connection.written))
  pub known : (command : Command) → In command later → is_of_connection command ≡ true →
      IsOfPipe world command

-- a client, except how much of what it wrote is in the list
abbrev pub untaken : ClientEnds → ClientEnds
untaken client =
    record client {
      connections = map (λ (connection : ClientConnection). record connection { taken = 0 })
          client.connections;
    }

-- The world comes to this list, command by command, and all else stays as it is.
pub record CommandsLeadTo (identifiers : List Client) (world : PacketWorld)
    (later : List Command) : Type 0 where
  pub after : PacketWorld
  pub reached : Reached identifiers after
  pub agreed : after.agreed ≡ later
  pub clients : map untaken after.clients ≡ map untaken world.clients

-- each reachable world comes to each list by which it is served
abbrev pub WorldsAreServed : Type 0
WorldsAreServed =
    (clients : List Client) (world : PacketWorld) (later : List Command) → ClientsAreApart clients →
    Reached clients world → ServesWorld world later → CommandsLeadTo clients world later
