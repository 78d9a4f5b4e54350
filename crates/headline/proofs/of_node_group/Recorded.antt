-- What the record of places gets in a run in which something may be lost: nothing if no log is cut,
-- and otherwise what it had applied.
use Rattle.std.proofs.Common.{◌≡◌, ℕ, Bool, true, false, not, nat_lt, if◌then◌else◌, List, [], ◌∷◌, ◌++◌, refl, sym, ap, ◌∙◌, arith}
use Rattle.std.proofs.lemmas.Bool.{and_parts, ltb-true}
use Rattle.broker_spec.specs.declared.command.Command.{Command}
use Rattle.agreement.specs.cut_logs.World.{recorded}
use Rattle.world_base.specs.node_core.Core.{CoreState, StepOutcome}
use Rattle.headline.specs.node_moves.BallotNames.{moves_replica}
use Rattle.headline.specs.node_moves.LossyMoves.{NodeMoveOrLost}
use Rattle.headline.specs.node_moves.LossyParts.{hears_in, inputs_in, inputs_of}
use Rattle.headline.specs.node_moves.LossyMoves.NodeMoveOrLost.{exactly, hears_losing}
use Rattle.headline.specs.node_moves.LossyRuns.{CutsNothing, HearsAtFirst, MoveTraceOrLost, all_inputs, cuts_in, exactly_cuts}
use Rattle.headline.specs.node_moves.LossyRuns.MoveTraceOrLost.{rests, goes_on}
use Rattle.headline.specs.node_moves.Moves.{NodeMove}
use Rattle.headline.specs.node_moves.Moves.NodeMove.{hears, cuts_log, crashes}
use Rattle.headline.proofs.of_node_moves.BaseStays.{calm_base, calm_run_base}
use Rattle.headline.proofs.of_node_moves.LossyRuns.{calm_cuts_none, still_cuts}
use Rattle.headline.specs.node_group.Group.{replica_of}
use Rattle.headline.specs.node_group.Losses.{recorded_by, recorded_in}
use Rattle.headline.specs.node_group.Proposals.{recorded_by as exactly_recorded}

-- ---- no log is cut

exactly_none : (archive : List Command) {core : CoreState} {outcome : StepOutcome} (m : NodeMove core outcome) → exactly_cuts m ≡ false → exactly_recorded archive m ≡ archive
exactly_none archive (cuts_log can) none = absurd cc
exactly_none archive m none = refl

none_by : (archive : List Command) {core : CoreState} {outcome : StepOutcome} (m : NodeMoveOrLost core outcome) → cuts_in m ≡ false → recorded_by archive m ≡ archive
none_by archive (exactly m) none = exactly_none archive m none
none_by archive m none = refl

pub records_none : (archive : List Command) {core : CoreState} {outcome : StepOutcome} (run : MoveTraceOrLost core outcome) → CutsNothing run → recorded_in archive run ≡ archive
records_none archive rests none = refl
records_none archive (goes_on m run) none = ap (λ (l : List Command). recorded_in l run) (none_by archive m none.0) ∙ records_none archive run none.1

-- ---- the replica receives nothing, but its log may be cut at first

-- the record after a run, by the base at which it leaves the log
abbrev pub recorded_to : List Command → CoreState → ℕ → List Command
recorded_to archive core base = if nat_lt (replica_of core).log.base base then recorded archive (replica_of core) else archive

not_under : (n : ℕ) (b : Bool) → nat_lt n n ≡ b → b ≡ false
not_under n true e = absurd (let low = ltb-true n n e in omega (arith, low))
not_under n false e = refl

-- at the same base the record stays
stays_at : (archive : List Command) (core : CoreState) (base : ℕ) → base ≡ (replica_of core).log.base → archive ≡ recorded_to archive core base
stays_at archive core base same =
    by (nat_lt (replica_of core).log.base base)
    (ap (λ n. nat_lt (replica_of core).log.base n) same
    ∙ not_under (replica_of core).log.base (nat_lt (replica_of core).log.base (replica_of core).log.base) refl)
  where
    by : (b : Bool) → b ≡ false → archive ≡ (if b then recorded archive (replica_of core) else archive)
    by true e = absurd cc
    by false e = refl

-- at a higher one it has what was applied
goes_to : (archive : List Command) (core : CoreState) (b : Bool) → b ≡ true → recorded archive (replica_of core) ≡ (if b then recorded archive (replica_of core) else archive)
goes_to archive core true e = refl
goes_to archive core false e = absurd cc

exactly_heard : (archive : List Command) (core : CoreState) (outcome : StepOutcome) (m : NodeMove core outcome) → moves_replica m ≡ true → inputs_of m ≡ []
    → exactly_recorded archive m ≡ recorded_to archive core (replica_of outcome.core).log.base
exactly_heard archive core outcome (cuts_log can) moves none =
    goes_to archive core (nat_lt (replica_of core).log.base (replica_of core).committed)
    (and_parts (not (replica_of core).stopped) (nat_lt (replica_of core).log.base (replica_of core).committed) can).1
exactly_heard archive core outcome crashes moves none = stays_at archive core (replica_of core).log.base refl
exactly_heard archive core outcome (hears input other) moves none = absurd cc
exactly_heard archive core outcome m moves none = absurd cc

heard : (archive : List Command) (core : CoreState) (outcome : StepOutcome) (m : NodeMoveOrLost core outcome) → hears_in m ≡ true → inputs_in m ≡ []
    → recorded_by archive m ≡ recorded_to archive core (replica_of outcome.core).log.base
heard archive core outcome (exactly m) moves none = exactly_heard archive core outcome m moves none
heard archive core outcome (hears_losing input account other drives) moves none = absurd cc
heard archive core outcome m moves none = absurd cc

first_records : (archive : List Command) (core : CoreState) (outcome : StepOutcome) (m : NodeMoveOrLost core outcome) → inputs_in m ≡ []
    → recorded_by archive m ≡ recorded_to archive core (replica_of outcome.core).log.base
first_records archive core outcome m none = by (hears_in m) refl
  where
    by : (b : Bool) → hears_in m ≡ b → recorded_by archive m ≡ recorded_to archive core (replica_of outcome.core).log.base
    by true e = heard archive core outcome m e none
    by false e = none_by archive m (still_cuts m e) ∙ stays_at archive core (replica_of outcome.core).log.base (calm_base core outcome m e)

none_at_first : {C : Type 0} (xs ys : List C) → xs ++ ys ≡ [] → xs ≡ []
none_at_first [] ys e = refl
none_at_first (x ∷ xs) ys e = absurd cc

pub records_to : (archive : List Command) {core : CoreState} {outcome : StepOutcome} (run : MoveTraceOrLost core outcome) → HearsAtFirst run → all_inputs run ≡ []
    → recorded_in archive run ≡ recorded_to archive core (replica_of outcome.core).log.base
records_to archive {core = core} rests calm none = stays_at archive core (replica_of core).log.base refl
records_to archive {core = core} (goes_on {first = first} m run) calm none =
    records_none (recorded_by archive m) run (calm_cuts_none run calm)
    ∙ first_records archive core first m (none_at_first (inputs_in m) (all_inputs run) none)
    ∙ ap (recorded_to archive core) (sym (calm_run_base run calm))
