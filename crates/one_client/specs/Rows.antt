-- A short run, to its end: a client of a group of one node publishes to itself, beside a stranger.
use Rattle.std.specs.Prelude.{◌≡◌, ℕ, false, List, [], ◌∷◌, map, Some}
use Rattle.lists.specs.Lists.{In}
use Rattle.broker_spec.specs.Connection.{ConnectionName}
use Rattle.exactly_once.specs.Acceptance.{accepted_on}
use Rattle.exactly_once.specs.Rows.{news, writer}
use Rattle.exactly_once.specs.Sides.{ClientConnection}
use Rattle.world_base.specs.declared.node_connections.port.Port.{Port}
use Rattle.world_base.specs.declared.node_core.item.Item.TheVariants.{Bytes}
use Rattle.headline.specs.Rows.{one_node}
use Rattle.headline.specs.byte_world.World.{ClientPipes}
use Rattle.headline.specs.node_group.Group.{Group}
use Rattle.headline.specs.node_group.Steps.{GroupTrace}
use Rattle.headline.specs.node_moves.Moves.NodeCall.{takes}
use Rattle.one_client.specs.Along.{Along, published_along}
use Rattle.one_client.specs.Calls.{calls_on, was_opened}
use Rattle.one_client.specs.Names.{AreNamed}
use Rattle.one_client.specs.Ports.{HasOwnPorts}

-- the port of the client's connection
abbrev pub own_port : Port
own_port = record { 0 = 5 }

-- the port of a connection that it gave up
abbrev pub lost_port : Port
lost_port = record { 0 = 9 }

-- the port of the stranger's connection
abbrev pub other_port : Port
other_port = record { 0 = 7 }

-- the second connection of the first ballot
abbrev pub second_connection : ConnectionName
second_connection = record { ballot = 1; count = 2 }

-- a name that no node gives
abbrev pub spare_name : ConnectionName
spare_name = record { ballot = 0; count = 0 }

-- bytes that begin no packet
abbrev pub noise : List ℕ
noise = 255 ∷ 255 ∷ []

-- the name of a connection
abbrev pub name_of : ClientConnection → ConnectionName
name_of connection = connection.name

-- The client opens a connection, gives it up, and opens another one. The node is never told of the
-- first, and of the second only after a stranger has come and brought bytes that begin no packet.
-- The client subscribes to what it publishes at QoS 2, both handshakes end, and it has accepted its
-- publication once.
pub record AcceptsBesideAStranger : Type 0 where
  pub group : Group
  pub went : GroupTrace 1 one_node group
  pub one : ClientPipes
  pub along : Along 1 one_node writer group went one
  pub names : map name_of one.connections ≡ second_connection ∷ spare_name ∷ []
  pub named : AreNamed went one.connections one.pipes
  pub own_ports : HasOwnPorts went one.pipes
  pub untold : was_opened 0 lost_port went ≡ false
  pub stranger : In (Some (0, takes (Bytes other_port noise 0))) (calls_on went)
  pub asked : published_along along ≡ news ∷ []
  pub accepted : accepted_on one.connections ≡ news ∷ []
