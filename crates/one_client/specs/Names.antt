-- The names by which the list of commands knows the connections of a client.
use Rattle.std.specs.Prelude.{◌≡◌, ◌⊎◌, ℕ, true, false, List, [], ◌∷◌, Option, Some, slice_get}
use Rattle.std.specs.List.{list_any}
use Rattle.ballot_base.specs.declared.config.Config.{Config}
use Rattle.broker_spec.specs.Connection.{ConnectionName, is_connection_name}
use Rattle.lists.specs.Lists.{In}
use Rattle.exactly_once.specs.Sides.{ClientConnection}
use Rattle.world_base.specs.declared.node_connections.connection.Connection.{Connection as NodesEnd}
use Rattle.world_base.specs.declared.node_connections.port.Port.{Port}
use Rattle.world_base.specs.node_core.Core.{CoreState}
use Rattle.headline.specs.node_moves.Moves.{NodeCall}
use Rattle.headline.specs.node_group.Group.{Group}
use Rattle.headline.specs.node_group.Steps.{GroupTrace, groups_on_trace}
use Rattle.headline.specs.byte_world.World.{Pipe}
use Rattle.one_client.specs.Calls.{calls_on, opens_at}

-- at some time the node at this index had this connection, open or with pending output
pub record HadConnection {nodes : ℕ} {config : Config} {group : Group}
    (went : GroupTrace nodes config group) (node : ℕ) (end : NodesEnd) : Type 0 where
  pub earlier : Group
  pub among : In earlier (groups_on_trace went)
  pub core : CoreState
  pub stands : slice_get earlier.nodes node ≡ Some core
  pub listed : In end core.connections

-- the connection at this port of this node is known by this name, and no other is, at any time
pub record IsNameAt {nodes : ℕ} {config : Config} {group : Group}
    (went : GroupTrace nodes config group) (name : ConnectionName) (node : ℕ) (port : Port) :
    Type 0 where
  pub named : (end : NodesEnd) → HadConnection went node end → end.port.0 ≡ port.0 →
      end.name ≡ name
  pub alone : (other : ℕ) (end : NodesEnd) → HadConnection went other end → end.name ≡ name →
      (other ≡ node) × (end.port.0 ≡ port.0)

-- each of these connections, whose pipes are in the same order, has the name by which its node
-- knows it
abbrev pub AreNamed : {nodes : ℕ} {config : Config} {group : Group} →
    GroupTrace nodes config group → List ClientConnection → List Pipe → Type 0
AreNamed went (connection ∷ connections) (pipe ∷ pipes) =
    IsNameAt went connection.name pipe.node pipe.port × AreNamed went connections pipes
AreNamed went _ _ = Unit {0}

-- of these calls, the newest first, at most one tells the node that a connection was opened at the
-- port
abbrev pub OpensOnce : ℕ → Port → List (Option (ℕ × NodeCall)) → Type 0
OpensOnce node port [] = Unit {0}
OpensOnce node port (node_call ∷ node_calls) =
    (opens_at node port node_call ≡ true → list_any (opens_at node port) node_calls ≡ false)
    × OpensOnce node port node_calls

-- if a port of a node is used for one connection, the name that its node gives that connection is
-- such a name
abbrev pub NamesGoWithPorts : Type 0
NamesGoWithPorts =
    (nodes : ℕ) (config : Config) (group : Group) (went : GroupTrace nodes config group)
    (node : ℕ) (end : NodesEnd) → OpensOnce node end.port (calls_on went) →
    HadConnection went node end → IsNameAt went end.name node end.port

-- A name by which the connection at this port is known, if there ever was one: the name that its
-- node gave it, or, if the node accepted none there, this spare one.
pub record HasNameAt {nodes : ℕ} {config : Config} {group : Group}
    (went : GroupTrace nodes config group) (node : ℕ) (port : Port) (spare : ConnectionName) :
    Type 0 where
  pub name : ConnectionName
  pub is : IsNameAt went name node port
  pub given : (is_connection_name name ≡ true) ⊎ (name ≡ spare)

-- if a port of a node is used for one connection at most, it has a name; a spare one is any that no
-- connection may have
abbrev pub PortsHaveNames : Type 0
PortsHaveNames =
    (nodes : ℕ) (config : Config) (group : Group) (went : GroupTrace nodes config group)
    (node : ℕ) (port : Port) (spare : ConnectionName) → OpensOnce node port (calls_on went) →
    is_connection_name spare ≡ false → HasNameAt went node port spare
