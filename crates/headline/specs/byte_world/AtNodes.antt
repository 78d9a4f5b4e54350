-- What the nodes of a world keep of connections: each was opened by a client, and its name was
-- given in a ballot that its node had joined.
use Rattle.std.specs.Prelude.{◌≡◌, ℕ, List, slice_get, Some}
use Rattle.ballot_base.specs.declared.config.Config.{Config}
use Rattle.broker_spec.specs.Place.{Client}
use Rattle.lists.specs.Lists.{In}
use Rattle.exactly_once.specs.Sides.{ClientConnection}
use Rattle.world_base.specs.declared.node_connections.connection.Connection.{Connection as NodesEnd}
use Rattle.world_base.specs.declared.node_connections.port.Port.{Port}
use Rattle.world_base.specs.node_core.Core.{CoreState}
use Rattle.headline.specs.node_moves.Ends.{IsOrderly}
use Rattle.headline.specs.byte_world.World.{ClientPipes, HasPipe, Pipe, ByteWorld}
use Rattle.headline.specs.byte_world.Steps.{Reached}

-- a pipe leads to this port of the node
pub record LeadsToPort (world : ByteWorld) (node_index : ℕ) (port : Port) : Type 0 where
  pub index : ℕ
  pub client : ClientPipes
  pub nth : ℕ
  pub connection : ClientConnection
  pub pipe : Pipe
  pub has : HasPipe world index client nth connection pipe
  pub node : pipe.node ≡ node_index
  pub at : pipe.port.0 ≡ port.0

-- whatever happened, a pipe leads to the port of each connection that a node lists, open or with
-- pending output
abbrev pub PortsHavePipes : Type 0
PortsHavePipes =
    (nodes : ℕ) (config : Config) (clients : List Client) (world : ByteWorld) →
    Reached nodes config clients world → (node : ℕ) (core : CoreState) (end : NodesEnd) →
    slice_get world.group.nodes node ≡ Some core → In end core.connections →
    LeadsToPort world node end.port

-- A node's names are distinct and were given, the last one in a ballot that is not above the one
-- that the node joined.
abbrev pub NodesAreOrderly : Type 0
NodesAreOrderly =
    (nodes : ℕ) (config : Config) (clients : List Client) (world : ByteWorld) →
    Reached nodes config clients world → (node : ℕ) (core : CoreState) →
    slice_get world.group.nodes node ≡ Some core → IsOrderly core
