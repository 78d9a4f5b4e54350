-- A move in which a replica receives nothing leaves its log at the base that it has, also one in
-- which something is lost; a cut moves it to what was applied.
use Rattle.std.proofs.Common.{◌≡◌, Bool, true, false, if◌then◌else◌, refl, ap, ◌∙◌, subst}
use Rattle.ballot_base.specs.Compaction.{can_cut}
use Rattle.ballot_base.specs.Protocol.Input.{Receives, Proposes, Ticks}
use Rattle.ballot_base.specs.Replica.{CountedReplica}
use Rattle.broker_base.specs.State.{State}
use Rattle.broker_spec.specs.declared.command.Command.{Command}
use Rattle.broker_spec.specs.declared.command.Command.TheVariants as commands
use Rattle.world_base.specs.node_connections.ConnectionChanges.{noted_proposed, closed_connection, failing, left_with}
use Rattle.world_base.specs.node_core.Core.{CoreState, StepOutcome}
use Rattle.world_base.specs.node_core.PacketInput.{changes}
use Rattle.world_base.specs.node_core.Step.{node_step}
use Rattle.world_base.specs.declared.node_core.item.Item.TheVariants.{Cut}
use Rattle.headline.specs.node_moves.LossyMoves.{NodeMoveOrLost}
use Rattle.headline.specs.node_moves.LossyParts.{hears_in}
use Rattle.headline.specs.node_moves.LossyMoves.NodeMoveOrLost.{exactly, hears_losing, first_losing, later_losing, tells_losing, expels_losing, forgets, halts, fails, unheard, drops}
use Rattle.headline.specs.node_moves.LossyRuns.{HearsNothing, MoveTraceOrLost}
use Rattle.headline.specs.node_moves.LossyRuns.MoveTraceOrLost.{rests, goes_on}
use Rattle.headline.specs.node_moves.Moves.{NodeMove, MoveTrace}
use Rattle.headline.specs.node_moves.Moves.NodeCall.{takes}
use Rattle.headline.specs.node_moves.Moves.NodeMove.{hears, opens_one, holds, reads_first, reads_later, closes, refuses, loses_one, loses_next, expels_one, cuts_log, crashes, settles, hands}
use Rattle.headline.specs.node_moves.Moves.MoveTrace.{rests as rests_exactly, goes_on as goes_exactly}
use Rattle.headline.proofs.of_node_moves.LossyNames.{taken_after, taken_same}
use Rattle.headline.proofs.of_node_moves.MovesOfReplica.{move_same}
use Rattle.headline.proofs.of_node_moves.PartsOfMoves.{BeginsWith, IsBare, Part, part_in}
use Rattle.headline.proofs.of_node_moves.ShutByChanges.{at_replica}
use Rattle.headline.proofs.of_node_moves.StepsMove.{First, node_calls_begin}

base_of : (core later : CoreState) → later.replica ≡ core.replica → later.replica.state.log.base ≡ core.replica.state.log.base
base_of core later e = ap (λ (r : CountedReplica State Command). r.state.log.base) e

pub calm_base : (core : CoreState) (outcome : StepOutcome) (m : NodeMoveOrLost core outcome) → hears_in m ≡ false → outcome.core.replica.state.log.base ≡ core.replica.state.log.base
calm_base core outcome (exactly m) calm = (move_same core outcome m calm).base
calm_base core outcome (hears_losing input account other drives) calm = absurd cc
calm_base core outcome (first_losing now port c connect rest account at first is taken) calm =
    (taken_after _ core (changes port (noted_proposed connect.keep_alive) (changes port (left_with now rest) core)) account
    (at_replica port (noted_proposed connect.keep_alive) (changes port (left_with now rest) core) ∙ at_replica port (left_with now rest) core) taken).base
calm_base core outcome (later_losing now port c packet rest account at later is taken) calm =
    (taken_after _ core (changes port (left_with now rest) core) account (at_replica port (left_with now rest) core) taken).base
calm_base core outcome (tells_losing name account taken) calm = (taken_same (commands.Lost name) core account taken).base
calm_base core outcome (expels_losing client account taken) calm = (taken_same (commands.Expel client) core account taken).base
calm_base core outcome forgets calm = refl
calm_base core outcome halts calm = refl
calm_base core outcome (fails port) calm = base_of core outcome.core (at_replica port failing core)
calm_base core outcome unheard calm = refl
calm_base core outcome (drops port piece) calm = base_of core outcome.core (at_replica port closed_connection core)

-- so it is in a run of such moves
pub calm_run_base : {core : CoreState} {outcome : StepOutcome} (run : MoveTraceOrLost core outcome) → HearsNothing run → outcome.core.replica.state.log.base ≡ core.replica.state.log.base
calm_run_base rests calm = refl
calm_run_base {core = core} (goes_on {first = first} m run) calm = calm_run_base run calm.1 ∙ calm_base core first m calm.0

-- ---- a cut

bare_base : {core : CoreState} {outcome : StepOutcome} (run : MoveTrace core outcome) → IsBare run → outcome.core.replica.state.log.base ≡ core.replica.state.log.base
bare_base rests_exactly bare = refl
bare_base {core = core} (goes_exactly {first = first} m run) bare = bare_base run bare.1 ∙ (move_same core first m bare.0.0).base

cut_moves : {core : CoreState} {outcome : StepOutcome} (m : NodeMove core outcome) → part_in m ≡ Part.cut → outcome.core.replica.state.log.base ≡ core.replica.state.committed
cut_moves (cuts_log can) part = refl
cut_moves (hears (Receives message) is) part = absurd cc
cut_moves (hears (Proposes command) is) part = absurd cc
cut_moves (hears Ticks is) part = absurd cc
cut_moves (opens_one port) part = absurd cc
cut_moves (holds port piece) part = absurd cc
cut_moves (reads_first now port c connect rest at first is room) part = absurd cc
cut_moves (reads_later now port c packet rest at later is room) part = absurd cc
cut_moves (closes port) part = absurd cc
cut_moves (refuses port c code at first is) part = absurd cc
cut_moves (loses_one port c at proposed) part = absurd cc
cut_moves (loses_next c at) part = absurd cc
cut_moves (expels_one client) part = absurd cc
cut_moves crashes part = absurd cc
cut_moves settles part = absurd cc
cut_moves (hands port) part = absurd cc

begins_cut : {core : CoreState} {outcome : StepOutcome} (run : MoveTrace core outcome) → BeginsWith Part.cut run → outcome.core.replica.state.log.base ≡ core.replica.state.committed
begins_cut rests_exactly begins = absurd cc
begins_cut (goes_exactly m run) begins = bare_base run begins.1 ∙ cut_moves m begins.0

-- a step that takes a cut, if there is something to cut
pub cut_step_base : (core : CoreState) → can_cut core.replica.state ≡ true → (node_step Cut core).core.replica.state.log.base ≡ core.replica.state.committed
cut_step_base core can =
    let r = subst (λ (b : Bool). First (if b then Part.cut else Part.nothing) core (node_step Cut core)) can (node_calls_begin (takes Cut) core) in
    begins_cut r.0 r.1
