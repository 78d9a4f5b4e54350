-- What a node may do in a step when memory may run out: a run of moves, one after another.
use Rattle.std.specs.Prelude.{◌≡◌, ℕ, Bool, true, false, List, [], ◌++◌, Some}
use Rattle.ballot_base.specs.Protocol.{Input}
use Rattle.broker_spec.specs.declared.command.Command.{Command}
use Rattle.broker_spec.specs.Connection.{ConnectionName}
use Rattle.world_base.specs.node_core.Core.{CoreState, StepOutcome, rules}
use Rattle.world_base.specs.node_core.Effects.{without_messages}
use Rattle.headline.specs.node_moves.LossyMoves.{NodeMoveOrLost}
use Rattle.headline.specs.node_moves.LossyParts.{came_on, hears_in, inputs_in, is_handing, move_proposal}
use Rattle.headline.specs.node_moves.LossyMoves.NodeMoveOrLost.{exactly}
use Rattle.headline.specs.node_moves.Moves.{NodeMove, and_then}
use Rattle.headline.specs.node_moves.Moves.NodeMove.{cuts_log}

-- moves one after another
pub data MoveTraceOrLost : CoreState → StepOutcome → Type 0 where
  rests : {core : CoreState} → MoveTraceOrLost core (without_messages core)  -- no move
  -- one move, and others after it
  goes_on : {core : CoreState} {first next : StepOutcome} → NodeMoveOrLost core first →
      MoveTraceOrLost first.core next → MoveTraceOrLost core (and_then first next)

-- in no move of a run the replica receives something
abbrev pub HearsNothing : {core : CoreState} {outcome : StepOutcome} →
    MoveTraceOrLost core outcome →
    Type 0
HearsNothing rests = Unit {0}
HearsNothing (goes_on move run) = (hears_in move ≡ false) × HearsNothing run

-- in no move of a run except the first the replica receives something
abbrev pub HearsAtFirst : {core : CoreState} {outcome : StepOutcome} →
    MoveTraceOrLost core outcome →
    Type 0
HearsAtFirst rests = Unit {0}
HearsAtFirst (goes_on move run) = HearsNothing run

-- the commands that a node proposes in a run, in order
abbrev pub run_proposals : {core : CoreState} {outcome : StepOutcome} →
    MoveTraceOrLost core outcome →
    List Command
run_proposals rests = []
run_proposals (goes_on move run) = move_proposal move ++ run_proposals run

-- the bytes that come on the connection of a name in it, in order
abbrev pub bytes_on : ConnectionName → {core : CoreState} {outcome : StepOutcome} →
    MoveTraceOrLost core outcome →
    List ℕ
bytes_on name rests = []
bytes_on name (goes_on move run) = came_on name move ++ bytes_on name run

-- what the replica receives in a run, in order
abbrev pub all_inputs : {core : CoreState} {outcome : StepOutcome} → MoveTraceOrLost core outcome →
    List (Input Command)
all_inputs rests = []
all_inputs (goes_on move run) = inputs_in move ++ all_inputs run

-- nothing is handed over in a run
abbrev pub HandsNothing : {core : CoreState} {outcome : StepOutcome} →
    MoveTraceOrLost core outcome →
    Type 0
HandsNothing rests = Unit {0}
HandsNothing (goes_on move run) = (is_handing move ≡ false) × HandsNothing run

-- whether a log is cut in a move
abbrev pub exactly_cuts : {core : CoreState} {outcome : StepOutcome} → NodeMove core outcome → Bool
exactly_cuts (cuts_log can) = true
exactly_cuts _ = false

-- whether a move that may have losses cuts the log
abbrev pub cuts_in : {core : CoreState} {outcome : StepOutcome} → NodeMoveOrLost core outcome → Bool
cuts_in (exactly move) = exactly_cuts move
cuts_in _ = false

-- in no move of a run a log is cut
abbrev pub CutsNothing : {core : CoreState} {outcome : StepOutcome} → MoveTraceOrLost core outcome →
    Type 0
CutsNothing rests = Unit {0}
CutsNothing (goes_on move run) = (cuts_in move ≡ false) × CutsNothing run

-- the bytes to which a log is cut thaw to its machine
abbrev pub CutsThaw : {core : CoreState} {outcome : StepOutcome} → NodeMoveOrLost core outcome →
    Type 0
CutsThaw {core = core} (exactly (cuts_log can)) =
    rules.thawed (rules.frozen core.replica.state.machine) ≡ Some core.replica.state.machine
CutsThaw _ = Unit {0}

-- what is frozen in each move of a run can be read
abbrev pub AllFreeze : {core : CoreState} {outcome : StepOutcome} → MoveTraceOrLost core outcome →
    Type 0
AllFreeze rests = Unit {0}
AllFreeze (goes_on move run) = CutsThaw move × AllFreeze run
