-- The first connection that a new primary opens in its ballot.
use Rattle.std.specs.Prelude.{◌≡◌, ◌<◌, ◌≤◌, ℕ, true, false, [], ◌∷◌, ◌++◌, filter}
use Rattle.std.specs.List.{list_any}
use Rattle.broker_spec.specs.Connection.{ConnectionName}
use Rattle.machine.specs.Ballots.{max_ballot}
use Rattle.world_base.specs.declared.node_core.item.Item.TheVariants.{Opened}
use Rattle.world_base.specs.declared.node_connections.port.Port.{Port}
use Rattle.world_base.specs.node_connections.Connections.{fresh, is_at, is_listed}
use Rattle.world_base.specs.node_core.Core.{CoreState, serves}
use Rattle.world_base.specs.node_core.Step.{node_step}
use Rattle.world_base.specs.node_core.Effects.{without_messages}
use Rattle.recovery.specs.one_node.Delivery.{ReportsItsLosses}

-- the first name of the ballot that the node joined
abbrev pub first_name_of_node : CoreState → ConnectionName
first_name_of_node core = record { ballot = core.replica.state.joined; count = 1 }

-- the node with a connection of that name at this port, and no other change
abbrev pub with_first_connection : Port → CoreState → CoreState
with_first_connection port core =
    record core {
      last_name = first_name_of_node core;
      connections = filter is_listed core.connections ++ fresh port (first_name_of_node core) ∷ [];
    }

-- a node that serves clients, is calm and accepted no connection in its ballot opens a connection
-- at a port of which it lists none, under that name
abbrev pub FirstIsOpened : Type 0
FirstIsOpened =
    (core : CoreState) (port : Port) (now : ℕ) → serves core ≡ true → ReportsItsLosses core →
    core.last_name.ballot < core.replica.state.joined →
    core.replica.state.joined ≤ max_ballot → list_any (is_at port) core.connections ≡ false →
    node_step (Opened port now) core ≡ without_messages (with_first_connection port core)
