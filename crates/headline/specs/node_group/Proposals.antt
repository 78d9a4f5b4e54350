-- What a node proposes to its replica in a run of moves, the effects of the replica, and that what
-- it receives was sent.
use Rattle.std.specs.Prelude.{◌≡◌, Some, ℕ, ◌+◌, if◌then◌else◌, List, [], ◌∷◌, ◌++◌, map}
use Rattle.lists.specs.Lists.{In}
use Rattle.ballot_base.specs.declared.message.Effect.{Effect}
use Rattle.ballot_base.specs.Protocol.{Input}
use Rattle.ballot_base.specs.Protocol.Input.{Receives, Proposes, Ticks}
use Rattle.broker_spec.specs.declared.command.Command.{Command}
use Rattle.broker_spec.specs.declared.command.Command.TheVariants as commands
use Rattle.broker_spec.specs.declared.command.Output.{Output}
use Rattle.world_base.specs.node_core.Core.{CoreState, StepOutcome, rules, serves}
use Rattle.agreement.specs.cut_logs.World.{recorded}
use Rattle.headline.specs.node_moves.Moves.{NodeMove, MoveTrace}
use Rattle.headline.specs.node_moves.Moves.MoveTrace.{rests, goes_on}
use Rattle.headline.specs.node_moves.Moves.NodeMove.{hears, cuts_log, reads_first, reads_later, loses_one, loses_next, expels_one}
use Rattle.headline.specs.node_moves.Puts.{move_effects}
use Rattle.headline.specs.node_group.Group.{Group, replica_of}

-- what a node receives from others was sent to it
abbrev pub InputWasSent : Group → ℕ → Input Command → Type 0
InputWasSent group node (Receives message) = In (node + 1, message) group.sent
InputWasSent group node (Proposes command) = Unit {0}
InputWasSent group node Ticks = Unit {0}

-- what a node receives in a move was sent, and the bytes to which it cuts its log thaw to its
-- machine
abbrev pub WasSent : Group → ℕ → {core : CoreState} {outcome : StepOutcome} →
    NodeMove core outcome →
    Type 0
WasSent group node (hears input is) = InputWasSent group node input
WasSent group node {core = core} (cuts_log can) =
    rules.thawed (rules.frozen (replica_of core).machine) ≡ Some (replica_of core).machine
WasSent group node _ = Unit {0}

-- what a node receives in each move of a run was sent
abbrev pub AllWasSent : Group → ℕ → {core : CoreState} {outcome : StepOutcome} →
    MoveTrace core outcome →
    Type 0
AllWasSent group node rests = Unit {0}
AllWasSent group node (goes_on move run) = WasSent group node move × AllWasSent group node run

-- the record of places after a move: a cut adds what the log that is cut has applied
abbrev pub recorded_by : List Command → {core : CoreState} {outcome : StepOutcome} →
    NodeMove core outcome →
    List Command
recorded_by archive {core = core} (cuts_log can) = recorded archive (replica_of core)
recorded_by archive _ = archive

-- the record after a run
abbrev pub recorded_in : List Command → {core : CoreState} {outcome : StepOutcome} →
    MoveTrace core outcome →
    List Command
recorded_in archive rests = archive
recorded_in archive (goes_on move run) = recorded_in (recorded_by archive move) run

-- the effects of its replica in a run
abbrev pub all_given : {core : CoreState} {outcome : StepOutcome} → MoveTrace core outcome →
    List (Effect Command Output)
all_given rests = []
all_given (goes_on move run) = move_effects move ++ all_given run

-- the commands that a node proposes to its replica in a move
abbrev pub commands_put : {core : CoreState} {outcome : StepOutcome} → NodeMove core outcome →
    List Command
commands_put (reads_first now port connection connect rest at first is room) =
    commands.Connect connection.name connect.client connect.clean ∷ []
commands_put (reads_later now port connection packet rest at later is room) =
    commands.Packet connection.name packet ∷ []
commands_put {core = core} (loses_one port connection at asked) = if serves core
    then commands.Lost connection.name ∷ [] else []
commands_put {core = core} (loses_next connection at) =
    if serves core then commands.Lost connection.name ∷ [] else []
commands_put {core = core} (expels_one client) =
    if serves core then commands.Expel client ∷ [] else []
commands_put _ = []

-- what a node proposes in a move, each with the ballot that it has joined then
abbrev pub put_in_move : {core : CoreState} {outcome : StepOutcome} → NodeMove core outcome →
    List (ℕ × Command)
put_in_move {core = core} move =
    map (λ command. ((replica_of core).joined, command)) (commands_put move)

-- what a node proposes in a run, in order
abbrev pub put_in_run : {core : CoreState} {outcome : StepOutcome} → MoveTrace core outcome →
    List (ℕ × Command)
put_in_run rests = []
put_in_run (goes_on move run) = put_in_move move ++ put_in_run run
