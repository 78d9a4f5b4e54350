-- What nodes propose in moves in which something may be lost: a command that the replica does not
-- take does not count as proposed.
use Rattle.std.specs.Prelude.{ℕ, List, [], ◌∷◌, ◌++◌, map}
use Rattle.ballot_base.specs.declared.message.Effect.{Effect}
use Rattle.ballot_base.specs.Protocol.{Input}
use Rattle.broker_spec.specs.declared.command.Command.{Command}
use Rattle.broker_spec.specs.declared.command.Output.{Output}
use Rattle.world_base.specs.node_core.Core.{CoreState, StepOutcome}
use Rattle.headline.specs.node_moves.LossyMoves.{NodeMoveOrLost}
use Rattle.headline.specs.node_moves.LossyParts.{move_effects, move_proposal}
use Rattle.headline.specs.node_moves.LossyRuns.{MoveTraceOrLost}
use Rattle.headline.specs.node_moves.LossyMoves.NodeMoveOrLost.{exactly}
use Rattle.headline.specs.node_moves.LossyRuns.MoveTraceOrLost.{rests, goes_on}
use Rattle.headline.specs.node_group.Group.{Group, replica_of}
use Rattle.headline.specs.node_group.Proposals.{InputWasSent}
use Rattle.headline.specs.node_group.Proposals.{commands_put as exactly_put, recorded_by as exactly_recorded}

-- each of these inputs that comes from others was sent to the node
abbrev pub WereSent : Group → ℕ → List (Input Command) → Type 0
WereSent group node [] = Unit {0}
WereSent group node (input ∷ inputs) = InputWasSent group node input × WereSent group node inputs

-- the record of places after a move
abbrev pub recorded_by : List Command → {core : CoreState} {outcome : StepOutcome} →
    NodeMoveOrLost core outcome →
    List Command
recorded_by archive (exactly move) = exactly_recorded archive move
recorded_by archive _ = archive

-- the record after a run
abbrev pub recorded_in : List Command → {core : CoreState} {outcome : StepOutcome} →
    MoveTraceOrLost core outcome →
    List Command
recorded_in archive rests = archive
recorded_in archive (goes_on move run) = recorded_in (recorded_by archive move) run

-- the effects of its replica in a run
abbrev pub all_given : {core : CoreState} {outcome : StepOutcome} → MoveTraceOrLost core outcome →
    List (Effect Command Output)
all_given rests = []
all_given (goes_on move run) = move_effects move ++ all_given run

-- the commands that a node proposes to its replica in a move
abbrev pub commands_put : {core : CoreState} {outcome : StepOutcome} → NodeMoveOrLost core outcome →
    List Command
commands_put (exactly move) = exactly_put move
commands_put move = move_proposal move

-- what a node proposes in a move, each with the ballot that it has joined then
abbrev pub put_in_move : {core : CoreState} {outcome : StepOutcome} → NodeMoveOrLost core outcome →
    List (ℕ × Command)
put_in_move {core = core} move =
    map (λ command. ((replica_of core).joined, command)) (commands_put move)

-- what a node proposes in a run, in order
abbrev pub put_in_run : {core : CoreState} {outcome : StepOutcome} → MoveTraceOrLost core outcome →
    List (ℕ × Command)
put_in_run rests = []
put_in_run (goes_on move run) = put_in_move move ++ put_in_run run
