-- A new connection of a client to a node, or none.
use Rattle.std.specs.Prelude.{◌≡◌, ◌⊎◌, ℕ, ◌-◌, Bool, true, false, Some, Ok, Err}
use Rattle.client_base.specs.Steps.{Call, keeper_step}
use Rattle.client_base.specs.declared.error.ClientError.{ClientError}
use Rattle.world_base.specs.node_core.Core.{CountedCore}
use Rattle.world_base.specs.declared.node_core.item.Item.TheVariants as items
use Rattle.world_base.specs.declared.node_connections.port.Port.{Port}
use Rattle.world_nodes.specs.RunningNodes.{numbered_node}
use Rattle.world_nodes.specs.Nodes.{NodesState}
use Rattle.world_nodes.specs.Steps.{NodeItemOrLost}
use Rattle.world_pipes.specs.Piped.{SendsConnect, Piped, taken_back}
use Rattle.std.specs.Option.{is_some}
use Rattle.world_base.specs.node_core.PortOutput.{listed_at}
use Rattle.world_base.specs.declared.node_core.item.Item.TheVariants.{Opened}
use Rattle.headline.specs.node_moves.Moves.NodeCall.{takes}
use Rattle.world_nodes.specs.ExactSteps.{NodeDoesCall}
use Rattle.world_pipes.specs.ModelSteps.{ConnectingFollows, FollowsAll}

-- There is no new connection: the client runs out of memory, or its node does not take the
-- connection, and it is removed.
abbrev pub NoneOpens : ℕ → Port → NodesState → Piped → NodesState → Piped → Type 0
NoneOpens node port old client new later =
    ((cause : ClientError)
    × SendsConnect (node - 1) port (keeper_step Call.Opens client.core.state) client (Err cause)
    later
    × (new ≡ old))
    ⊎ ((opened : Piped)
    × SendsConnect (node - 1) port (keeper_step Call.Opens client.core.state) client (Ok tt) opened
    × (later ≡ taken_back opened)
    × ((new ≡ old) ⊎ NodeItemOrLost node (items.Opened port 0) old new))

-- the node of this number exists, and has a connection at this port or not
pub record IsKnown (has : Bool) (node : ℕ) (port : Port) (state : NodesState) : Type 0 where
  pub core : CountedCore
  pub stands : numbered_node state.nodes node ≡ Some core
  pub known : is_some (listed_at port core.core) ≡ has

-- a new connection is reported to a node, which then has it or not
pub record HearsAndHas (has : Bool) (node : ℕ) (port : Port) (old new : NodesState) : Type 0 where
  pub step : NodeItemOrLost node (Opened port 0) old new
  pub acts : NodeDoesCall (node - 1) (takes (Opened port 0)) old new
  pub known : IsKnown has node port new

-- a new connection is reported to a node, which then has it, or it is not reported
abbrev pub HearsOfOne : Bool → ℕ → Port → NodesState → NodesState → Type 0
HearsOfOne true node port old new = HearsAndHas true node port old new
HearsOfOne false node port old new = (new ≡ old) ⊎ HearsAndHas false node port old new

-- a client has a new connection to a node, which takes it
pub record HasNew (node : ℕ) (port : Port) (old : NodesState) (client : Piped) (new : NodesState)
    (later : Piped) : Type 0 where
  pub opens : SendsConnect (node - 1) port (keeper_step Call.Opens client.core.state) client (Ok tt)
      later
  pub follows : ConnectingFollows (node - 1) port client (Ok tt) later
  pub hears : HearsAndHas true node port old new

-- a client has a new connection to a node, which takes it, or it has none
abbrev pub Reaches : Bool → ℕ → Port → NodesState → Piped → NodesState → Piped → Type 0
Reaches true node port old client new later = HasNew node port old client new later
Reaches false node port old client new later =
    FollowsAll client later × HearsOfOne false node port old new
    × NoneOpens node port old client new later
