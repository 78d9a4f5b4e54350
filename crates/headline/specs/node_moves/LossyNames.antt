-- That names keep their ballot if memory may run out.
use Rattle.std.specs.Prelude.{◌≡◌, true, false, Some, None}
use Rattle.broker_spec.specs.declared.command.Command.{Command}
use Rattle.broker_spec.specs.Connection.{ConnectionName}
use Rattle.lists.specs.Lists.{In}
use Rattle.exactly_once.specs.StoryCommands.{is_packet_of}
use Rattle.world_base.specs.declared.node_connections.connection.Connection.{Connection}
use Rattle.world_base.specs.node_core.Core.{CoreState, StepOutcome, serves}
use Rattle.headline.specs.node_moves.Closed.{listed_named}
use Rattle.headline.specs.node_moves.Ends.{IsOrderly}
use Rattle.headline.specs.node_moves.BallotNames.{AreOfTheBallot}
use Rattle.headline.specs.node_moves.LossyMoves.{NodeMoveOrLost}
use Rattle.headline.specs.node_moves.LossyParts.{hears_in, move_proposal}
use Rattle.headline.specs.node_moves.Names.{IsNextName}

-- a connection that is new after a move has the next name of the ballot that the node leads
abbrev pub LossyNamesAreOfTheBallot : Type 0
LossyNamesAreOfTheBallot =
    (core : CoreState) (outcome : StepOutcome) (move : NodeMoveOrLost core outcome) →
    IsOrderly core →
    (name : ConnectionName) (new : Connection) → listed_named name core ≡ None →
    listed_named name outcome.core ≡ Some new → IsNextName core name

-- if a node serves, each open connection has a name of the ballot that it leads
abbrev pub AreWhereItServes : CoreState → Type 0
AreWhereItServes core = serves core ≡ true → AreOfTheBallot core

-- `AreWhereItServes` holds after each move in which the replica receives nothing, and after one in
-- which it does, if that move began as a step does. And a node proposes under a name only in the
-- ballot of that name.
pub record LossyNamesKeepTheirBallot : Type 0 where
  pub moves : (core : CoreState) (outcome : StepOutcome) (move : NodeMoveOrLost core outcome) →
      IsOrderly core → hears_in move ≡ false → AreWhereItServes core →
      AreWhereItServes outcome.core
  pub hears : (core : CoreState) (outcome : StepOutcome) (move : NodeMoveOrLost core outcome) →
      IsOrderly core → AreOfTheBallot core → AreWhereItServes outcome.core
  pub proposes : (core : CoreState) (outcome : StepOutcome) (move : NodeMoveOrLost core outcome) →
      IsOrderly core → AreWhereItServes core → serves core ≡ true →
      (name : ConnectionName) (command : Command) →
      In command (move_proposal move) → is_packet_of command name ≡ true →
      name.ballot ≡ core.replica.state.joined
