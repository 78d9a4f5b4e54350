-- What is promised to a client each of whose connections has a port of its own: then its
-- connections need no names in the premises.
use Rattle.std.specs.Prelude.{◌≡◌, ℕ, false, List, [], ◌∷◌}
use Rattle.std.specs.List.{list_any}
use Rattle.lists.specs.Lists.{In}
use Rattle.ballot_base.specs.declared.config.Config.{Config}
use Rattle.broker_spec.specs.Connection.{ConnectionName}
use Rattle.broker_spec.specs.Place.{Client}
use Rattle.broker_spec.specs.declared.command.Command.{Command}
use Rattle.client_base.specs.State.{ClientState}
use Rattle.exactly_once.specs.Sides.{ClientConnection}
use Rattle.agreement.specs.cut_logs.Moments.{IsAgreed}
use Rattle.world_base.specs.declared.node_connections.connection.Connection.{Connection as NodesEnd}
use Rattle.headline.specs.Exact.{IsShownBy}
use Rattle.headline.specs.Promise.{Promise}
use Rattle.headline.specs.byte_world.World.{ClientPipes, Pipe, leads_to}
use Rattle.headline.specs.node_group.Group.{Group, moment_of_nodes}
use Rattle.headline.specs.node_group.GroupMoments.{HasMoments}
use Rattle.headline.specs.node_group.Steps.{GroupTrace, all_proposed, groups_on_trace}
use Rattle.headline.specs.node_group.Streams.{came_up}
use Rattle.one_client.specs.Along.{Along, published_along}
use Rattle.one_client.specs.Calls.{calls_on}
use Rattle.one_client.specs.ConnectsFirst.{ConnectsAs}
use Rattle.one_client.specs.Names.{AreNamed, HadConnection, OpensOnce}

-- ---- the premises

-- each of these pipes leads to a port that is used for one connection: its node is told once at
-- most that one was opened there, and no other of the pipes leads there
abbrev pub HasOwnPorts : {nodes : ℕ} {config : Config} {group : Group} →
    GroupTrace nodes config group → List Pipe → Type 0
HasOwnPorts went [] = Unit {0}
HasOwnPorts went (pipe ∷ pipes) =
    OpensOnce pipe.node pipe.port (calls_on went)
    × (list_any (leads_to pipe.node pipe.port) pipes ≡ false)
    × HasOwnPorts went pipes

-- the node of one of these pipes gave this name to the connection at its port
pub record WasGivenAt {nodes : ℕ} {config : Config} {group : Group}
    (went : GroupTrace nodes config group) (name : ConnectionName) (pipes : List Pipe) :
    Type 0 where
  pub pipe : Pipe
  pub leads : In pipe pipes
  pub end : NodesEnd
  pub had : HadConnection went pipe.node end
  pub at : end.port.0 ≡ pipe.port.0
  pub is : end.name ≡ name

-- nobody else uses the client's identifier: each connection on which a CONNECT with it came first
-- is at one of the client's ports
abbrev pub NobodyElseConnects : Client → {nodes : ℕ} {config : Config} {group : Group} →
    GroupTrace nodes config group → List Pipe → Type 0
NobodyElseConnects client went pipes =
    (name : ConnectionName) → ConnectsAs (came_up name went) client → WasGivenAt went name pipes

-- ---- the promise

-- these connections under other names, as far as there are names
abbrev pub under_names : List ClientConnection → List ConnectionName → List ClientConnection
under_names [] names = []
under_names (connection ∷ connections) [] = connection ∷ connections
under_names (connection ∷ connections) (name ∷ names) =
    record connection { name = name } ∷ under_names connections names

-- The client gets what is promised, by each list on which the nodes agree at the end of the steps;
-- its connections have the names by which their nodes know them.
pub record IsPromisedAtPorts {nodes : ℕ} {config : Config} {client : Client} {group : Group}
    {went : GroupTrace nodes config group} {one : ClientPipes}
    (along : Along nodes config client group went one) : Type 0 where
  pub names : List ConnectionName
  pub are_named : AreNamed went (under_names one.connections names) one.pipes
  pub of : HasMoments config group (groups_on_trace went) (all_proposed went)
  pub agreed : List Command
  pub is_agreed : IsAgreed config (moment_of_nodes group ∷ of.earlier) agreed
  pub promises : (list : List Command) → IsAgreed config (moment_of_nodes group ∷ of.earlier) list →
      (state : ClientState) → IsShownBy one state →
      Promise (under_names one.connections names) (published_along along) list state

-- in all steps of any group, each client that keeps its side, and whose connections have ports of
-- their own, is promised the same, if nobody else uses its identifier
abbrev pub ClientsWithOwnPortsArePromised : Type 0
ClientsWithOwnPortsArePromised =
    (nodes : ℕ) (config : Config) (client : Client) (group : Group)
    (went : GroupTrace nodes config group) (one : ClientPipes)
    (along : Along nodes config client group went one) → HasOwnPorts went one.pipes →
    NobodyElseConnects client went one.pipes → IsPromisedAtPorts along
