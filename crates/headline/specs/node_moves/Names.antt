-- Which name a connection gets that a node opens.
use Rattle.std.specs.Prelude.{◌≡◌, ◌+◌, true, Some, None}
use Rattle.broker_spec.specs.Connection.{ConnectionName}
use Rattle.world_base.specs.declared.node_connections.connection.Connection.{Connection}
use Rattle.world_base.specs.node_core.Core.{CoreState, StepOutcome, serves}
use Rattle.world_base.specs.node_core.Step.{accepted}
use Rattle.headline.specs.node_moves.Closed.{listed_named}
use Rattle.headline.specs.node_moves.Ends.{IsOrderly}
use Rattle.headline.specs.node_moves.Moves.{NodeMove}

-- A name of the ballot that its replica leads as the active primary, with the next number there.
pub record IsNextName (core : CoreState) (name : ConnectionName) : Type 0 where
  pub leads : serves core ≡ true
  pub ballot : name.ballot ≡ core.replica.state.joined
  pub count : name.count ≡ accepted core + 1

-- each connection that is new after a move has a name of the ballot
abbrev pub NewNamesAreOfTheBallot : Type 0
NewNamesAreOfTheBallot =
    (core : CoreState) (outcome : StepOutcome) (move : NodeMove core outcome) → IsOrderly core →
    (name : ConnectionName) (new : Connection) → listed_named name core ≡ None →
    listed_named name outcome.core ≡ Some new → IsNextName core name
