-- What is handed over in a run of moves in which something may be lost.
use Rattle.std.proofs.Common.{◌≡◌, ℕ, false, List, [], ◌++◌, refl, ap, ◌∙◌}
use Rattle.broker_spec.specs.Connection.{ConnectionName}
use Rattle.world_base.specs.node_core.Core.{CoreState, StepOutcome}
use Rattle.headline.specs.node_moves.LossyMoves.{NodeMoveOrLost}
use Rattle.headline.specs.node_moves.LossyParts.{is_handing}
use Rattle.headline.specs.node_moves.LossyRuns.{HandsNothing, MoveTraceOrLost}
use Rattle.headline.specs.node_moves.LossyMoves.NodeMoveOrLost.{exactly}
use Rattle.headline.specs.node_moves.LossyRuns.MoveTraceOrLost.{rests as rests_losing, goes_on as goes_losing}
use Rattle.headline.specs.node_moves.Moves.{NodeMove, MoveTrace}
use Rattle.headline.specs.node_moves.Moves.NodeMove.{hands}
use Rattle.headline.specs.node_moves.Moves.MoveTrace.{rests, goes_on}
use Rattle.headline.specs.node_moves.Puts.{is_handing as exactly_handing}
use Rattle.headline.proofs.of_node_group.LosingNone.{losing_none}
use Rattle.headline.specs.node_group.Streams.{handed_in_run}
use Rattle.headline.specs.node_group.Streams.{handed_on as exactly_handed}

abbrev pub handed_on : ConnectionName → {core : CoreState} {outcome : StepOutcome} → NodeMoveOrLost core outcome → List ℕ
handed_on x (exactly m) = exactly_handed x m
handed_on x _ = []

abbrev pub handed_losing : ConnectionName → {core : CoreState} {outcome : StepOutcome} → MoveTraceOrLost core outcome → List ℕ
handed_losing x rests_losing = []
handed_losing x (goes_losing m run) = handed_on x m ++ handed_losing x run

-- if nothing is lost
pub same_handed : (x : ConnectionName) {core : CoreState} {outcome : StepOutcome} (run : MoveTrace core outcome) → handed_losing x (losing_none run) ≡ handed_in_run x run
same_handed x rests = refl
same_handed x (goes_on m run) = ap (λ l. exactly_handed x m ++ l) (same_handed x run)

none_exactly : (x : ConnectionName) {core : CoreState} {outcome : StepOutcome} (m : NodeMove core outcome) → exactly_handing m ≡ false → exactly_handed x m ≡ []
none_exactly x (hands port) none = absurd cc
none_exactly x m none = refl

none_on : (x : ConnectionName) {core : CoreState} {outcome : StepOutcome} (m : NodeMoveOrLost core outcome) → is_handing m ≡ false → handed_on x m ≡ []
none_on x (exactly m) none = none_exactly x m none
none_on x m none = refl

-- and if nothing is handed over
pub none_handed : (x : ConnectionName) {core : CoreState} {outcome : StepOutcome} (run : MoveTraceOrLost core outcome) → HandsNothing run → handed_losing x run ≡ []
none_handed x rests_losing none = refl
none_handed x (goes_losing m run) none = ap (λ l. l ++ handed_losing x run) (none_on x m none.0) ∙ none_handed x run none.1
