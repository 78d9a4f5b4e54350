-- A run of moves is one in which something may be lost, and nothing is.
use Rattle.std.proofs.Common.{◌≡◌, ℕ, List, ◌++◌, refl, ap}
use Rattle.broker_spec.specs.declared.command.Command.{Command}
use Rattle.broker_spec.specs.Connection.{ConnectionName}
use Rattle.world_base.specs.node_core.Core.{CoreState, StepOutcome}
use Rattle.headline.specs.node_moves.Ends.{came_on}
use Rattle.headline.specs.node_moves.RunProposals.{bytes_on}
use Rattle.headline.specs.node_moves.Receipts.{HearsAtFirst, IsCalm}
use Rattle.headline.specs.node_moves.LossyParts.{inputs_of}
use Rattle.headline.specs.node_moves.LossyRuns.{AllFreeze, CutsThaw, MoveTraceOrLost, all_inputs}
use Rattle.headline.specs.node_moves.LossyRuns.{HearsAtFirst as FirstLosing, HearsNothing as CalmLosing, bytes_on as bytes_losing}
use Rattle.headline.specs.node_moves.LossyMoves.NodeMoveOrLost.{exactly}
use Rattle.headline.specs.node_moves.LossyRuns.MoveTraceOrLost.{rests as rests_losing, goes_on as goes_losing}
use Rattle.headline.specs.node_moves.Moves.{NodeMove, MoveTrace}
use Rattle.headline.specs.node_moves.Moves.NodeMove.{hears, cuts_log}
use Rattle.headline.specs.node_moves.Moves.MoveTrace.{rests, goes_on}
use Rattle.headline.specs.node_moves.Puts.{move_effects}
use Rattle.headline.specs.node_group.Group.{Group}
use Rattle.headline.specs.node_group.Steps.{AllWasSent, WasSent, all_given, put_in_move, put_in_run}
use Rattle.headline.specs.node_group.Losses.{WereSent}
use Rattle.headline.specs.node_group.Losses.{all_given as given_losing, put_in_run as put_losing, recorded_in as recorded_losing}
use Rattle.headline.specs.node_group.Proposals.{recorded_by, recorded_in}

abbrev pub losing_none : {core : CoreState} {outcome : StepOutcome} → MoveTrace core outcome → MoveTraceOrLost core outcome
losing_none rests = rests_losing
losing_none (goes_on m run) = goes_losing (exactly m) (losing_none run)

-- it is the same run

pub same_given : {core : CoreState} {outcome : StepOutcome} (run : MoveTrace core outcome) → given_losing (losing_none run) ≡ all_given run
same_given rests = refl
same_given (goes_on m run) = ap (λ l. move_effects m ++ l) (same_given run)

pub same_put : {core : CoreState} {outcome : StepOutcome} (run : MoveTrace core outcome) → put_losing (losing_none run) ≡ put_in_run run
same_put rests = refl
same_put (goes_on m run) = ap (λ l. put_in_move m ++ l) (same_put run)

pub same_recorded : (archive : List Command) {core : CoreState} {outcome : StepOutcome} (run : MoveTrace core outcome) →
    recorded_losing archive (losing_none run) ≡ recorded_in archive run
same_recorded archive rests = refl
same_recorded archive (goes_on m run) = same_recorded (recorded_by archive m) run

pub same_bytes : (x : ConnectionName) {core : CoreState} {outcome : StepOutcome} (run : MoveTrace core outcome) → bytes_losing x (losing_none run) ≡ bytes_on x run
same_bytes x rests = refl
same_bytes x (goes_on m run) = ap (λ l. came_on x m ++ l) (same_bytes x run)

calm_still : {core : CoreState} {outcome : StepOutcome} (run : MoveTrace core outcome) → IsCalm run → CalmLosing (losing_none run)
calm_still rests calm = tt
calm_still (goes_on m run) calm = (calm.0, calm_still run calm.1)

pub first_still : {core : CoreState} {outcome : StepOutcome} (run : MoveTrace core outcome) → HearsAtFirst run → FirstLosing (losing_none run)
first_still rests first = tt
first_still (goes_on m run) calm = calm_still run calm

sent_in_move : (g : Group) (n : ℕ) {core : CoreState} {outcome : StepOutcome} (m : NodeMove core outcome) → WasSent g n m → WereSent g n (inputs_of m)
sent_in_move g n (hears input other) sent = (sent, tt)
sent_in_move g n m sent = tt

pub sent_by : (g : Group) (n : ℕ) {core : CoreState} {outcome : StepOutcome} (m : NodeMove core outcome) → WereSent g n (inputs_of m) → CutsThaw (exactly m) → WasSent g n m
sent_by g n (hears input other) sent frozen = sent.0
sent_by g n (cuts_log can) sent frozen = frozen
sent_by g n m sent frozen = tt

freezes_by : (g : Group) (n : ℕ) {core : CoreState} {outcome : StepOutcome} (m : NodeMove core outcome) → WasSent g n m → CutsThaw (exactly m)
freezes_by g n (cuts_log can) sent = sent
freezes_by g n m sent = tt

pub frozen_losing : (g : Group) (n : ℕ) {core : CoreState} {outcome : StepOutcome} (run : MoveTrace core outcome) → AllWasSent g n run → AllFreeze (losing_none run)
frozen_losing g n rests sent = tt
frozen_losing g n (goes_on m run) sent = (freezes_by g n m sent.0, frozen_losing g n run sent.1)

sent_and : (g : Group) (n : ℕ) {core : CoreState} {outcome : StepOutcome} (m : NodeMove core outcome) {later : StepOutcome} (run : MoveTraceOrLost outcome.core later) → WereSent g n (inputs_of m) → WereSent g n (all_inputs run)
    → WereSent g n (inputs_of m ++ all_inputs run)
sent_and g n (hears input other) run sent more = (sent.0, more)
sent_and g n m run sent more = more

pub sent_losing : (g : Group) (n : ℕ) {core : CoreState} {outcome : StepOutcome} (run : MoveTrace core outcome) → AllWasSent g n run → WereSent g n (all_inputs (losing_none run))
sent_losing g n rests sent = tt
sent_losing g n (goes_on m run) sent = sent_and g n m (losing_none run) (sent_in_move g n m sent.0) (sent_losing g n run sent.1)
