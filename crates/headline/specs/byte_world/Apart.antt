-- No two nodes of a group give the same name.
use Rattle.std.specs.Prelude.{◌≡◌, ℕ, slice_get, Some}
use Rattle.lists.specs.Lists.{In}
use Rattle.ballot_base.specs.declared.config.Config.{Config}
use Rattle.broker_spec.specs.Connection.{ConnectionName}
use Rattle.world_base.specs.declared.node_connections.connection.Connection.{Connection}
use Rattle.world_base.specs.node_core.Core.{CoreState}
use Rattle.headline.specs.node_moves.Closed.{listed_named}
use Rattle.headline.specs.node_group.Group.{Group}
use Rattle.headline.specs.node_group.Steps.{GroupTrace, groups_on_trace}

-- a node has a connection of this name, open or with pending output
pub record HasName (name : ConnectionName) (group : Group) (node : ℕ) : Type 0 where
  pub core : CoreState
  pub stands : slice_get group.nodes node ≡ Some core
  pub connection : Connection
  pub listed : listed_named name core ≡ Some connection

-- if nodes have connections of one name, at any times, they are one node
abbrev pub NamesStayApart : Type 0
NamesStayApart =
    (nodes : ℕ) (config : Config) (group : Group) (went : GroupTrace nodes config group)
    (name : ConnectionName) (first second : Group) (node other : ℕ) →
    In first (groups_on_trace went) → In second (groups_on_trace went) →
    HasName name first node → HasName name second other → node ≡ other
