-- Which ballot the names of a node's open connections have.
use Rattle.std.specs.Prelude.{◌≡◌, ℕ, Bool, true, false, Some}
use Rattle.ballot_base.specs.declared.config.Config.{Config}
use Rattle.ballot_base.specs.Protocol.{Input}
use Rattle.broker_spec.specs.declared.command.Command.{Command}
use Rattle.broker_spec.specs.Connection.{ConnectionName}
use Rattle.lists.specs.Lists.{In}
use Rattle.exactly_once.specs.StoryCommands.{is_packet_of}
use Rattle.world_base.specs.declared.node_connections.connection.Connection.{Connection}
use Rattle.world_base.specs.node_connections.Connections.{is_closed}
use Rattle.world_base.specs.node_core.Core.{CoreState, StepOutcome, opening_core, serves}
use Rattle.world_base.specs.node_core.Step.{crashed, settled, with_cut}
use Rattle.world_base.specs.node_core.Effects.{drives}
use Rattle.headline.specs.node_moves.Closed.{listed_named}
use Rattle.headline.specs.node_moves.Ends.{IsOrderly, move_proposal}
use Rattle.headline.specs.node_moves.Moves.{NodeMove}
use Rattle.headline.specs.node_moves.Moves.NodeMove.{hears, cuts_log, crashes}

-- each open connection has a name of the ballot that the node leads as its active primary
pub record AreOfTheBallot (core : CoreState) : Type 0 where
  pub each : (name : ConnectionName) (connection : Connection) →
      listed_named name core ≡ Some connection → is_closed connection.stage ≡ false →
      (serves core ≡ true) × (name.ballot ≡ core.replica.state.joined)

-- a move in which the replica receives something, cuts its log, or stops
abbrev pub moves_replica : {core : CoreState} {outcome : StepOutcome} → NodeMove core outcome → Bool
moves_replica (hears input other) = true
moves_replica (cuts_log can) = true
moves_replica crashes = true
moves_replica _ = false

-- `AreOfTheBallot` holds from the opening on. Each move preserves it, except that a move in which
-- the replica receives something, cuts its log, or stops preserves it only together with the
-- settling move after it, with which each step of a node ends. And then a node proposes under a
-- name only in the ballot of that name.
pub record NamesKeepTheirBallot : Type 0 where
  pub opens : (id : ℕ) (config : Config) → AreOfTheBallot (opening_core id config)
  pub moves : (core : CoreState) (outcome : StepOutcome) (move : NodeMove core outcome) →
      IsOrderly core → moves_replica move ≡ false → AreOfTheBallot core →
      AreOfTheBallot outcome.core
  pub hears : (core : CoreState) (input : Input Command) → IsOrderly core → AreOfTheBallot core →
      AreOfTheBallot (settled (drives input core).core)
  pub cuts : (core : CoreState) → IsOrderly core → AreOfTheBallot core →
      AreOfTheBallot (settled (with_cut core))
  pub stops : (core : CoreState) → IsOrderly core → AreOfTheBallot (settled (crashed core))
  pub proposes : (core : CoreState) (outcome : StepOutcome) (move : NodeMove core outcome) →
      IsOrderly core → AreOfTheBallot core → (name : ConnectionName) (command : Command) →
      In command (move_proposal move) → is_packet_of command name ≡ true →
      name.ballot ≡ core.replica.state.joined
