-- In a call of a node the replica receives something only in the first move.
use Rattle.std.specs.Prelude.{◌≡◌, false}
use Rattle.world_base.specs.node_core.Core.{CoreState, StepOutcome}
use Rattle.headline.specs.node_moves.BallotNames.{moves_replica}
use Rattle.headline.specs.node_moves.Moves.{NodeCall, MoveTrace, done}
use Rattle.headline.specs.node_moves.Moves.MoveTrace.{rests, goes_on}

-- in no move of a run the replica receives something, or stops
abbrev pub IsCalm : {core : CoreState} {outcome : StepOutcome} → MoveTrace core outcome → Type 0
IsCalm rests = Unit {0}
IsCalm (goes_on move run) = (moves_replica move ≡ false) × IsCalm run

-- in no move of a run except the first the replica receives something, or stops
abbrev pub HearsAtFirst : {core : CoreState} {outcome : StepOutcome} → MoveTrace core outcome →
    Type 0
HearsAtFirst rests = Unit {0}
HearsAtFirst (goes_on move run) = IsCalm run

-- each call is a run in which only the first move may receive something, or stop
abbrev pub NodeCallsHearAtFirst : Type 0
NodeCallsHearAtFirst =
    (node_call : NodeCall) (core : CoreState) →
    (run : MoveTrace core (done node_call core)) × HearsAtFirst run
