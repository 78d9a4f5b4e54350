-- Theorems about the order of proposals and of outputs at all moments of a group that cuts its
-- logs. Logs are meant as whole ones.
use Rattle.std.specs.Prelude.{ℕ, Bool, ◌≤◌, ◌≡◌, List, [], ◌∷◌, ◌++◌, filter, length, map}
use Rattle.std.specs.Prelude.{slice_get, Some}
use Rattle.machine.specs.Machine.{Rules}
use Rattle.lists.specs.Lists.{In, IsPrefixOf}
use Rattle.agreement.specs.whole_logs.Application.{outputs_between}
use Rattle.agreement.specs.NodeOutputs.{GivesNext}
use Rattle.agreement.specs.MasterState.{MasterState}
use Rattle.agreement.specs.Moments.{IsAgreed}
use Rattle.agreement.specs.Primaries.{IsPrimary}
use Rattle.agreement.specs.Proposals.{IsOfBallot, IsPartOf, IsTaken, commands_of, rows_in}
use Rattle.agreement.specs.World.{log_of, outputs}
use Rattle.ballot_base.specs.declared.config.Config.{Config}
use Rattle.ballot_base.specs.Replica.{ReplicaState}
use Rattle.agreement.specs.cut_logs.NodeOutputs.{LeadsOn, given_in, given_of}
use Rattle.agreement.specs.cut_logs.Moments.{Moment, Moments, whole_moment}
use Rattle.agreement.specs.cut_logs.Proposals.{proposal_of, proposals_of, taken_at, taken_in}
use Rattle.agreement.specs.cut_logs.Proposals.{taken_of, takes_at}
use Rattle.agreement.specs.cut_logs.Steps.{MayHappen}
use Rattle.agreement.specs.cut_logs.Whole.{whole, whole_log}
use Rattle.agreement.specs.cut_logs.World.{CutGroupWorld, whole_world}

-- of the commands that were taken only in one ballot, each log has a prefix in the order of
-- proposing
abbrev pub KeepsTheOrder : {S C O : Type 0} → Rules S C O → Type 0
KeepsTheOrder {S} {C} {O} rules =
    (config : Config) (moment : Moment S C O) (moments : List (Moment S C O)) →
    (came : Moments rules config (moment ∷ moments)) →
    IsPartOf (taken_of came) (proposals_of came)
    × ((names : C → Bool) (ballot : ℕ) → IsOfBallot rules.start_of names ballot (taken_of came) →
    (node : ℕ) (replica : ReplicaState S C) → slice_get moment.world.nodes node ≡ Some replica →
    IsPrefixOf (filter names (whole_log moment.world.archive replica.log))
    (filter names (commands_of (taken_of came))))

-- what a node takes in a step is at once at the end of its log; everything that is taken is taken
-- by some node; and a proposal that is not taken changes no log. The step is between moments, since
-- the whole log is given by the record.
pub record StandsAtOnce {S C O : Type 0} {rules : Rules S C O} {master : MasterState}
    {world : CutGroupWorld S C O} {next_master : MasterState} {next_world : CutGroupWorld S C O}
    (step : MayHappen rules master world next_master next_world) : Type 0 where
  pub stands : (node : ℕ) (row : ℕ × C) → In row (takes_at node step) →
      IsTaken (whole_world world) (whole_world next_world) node row
  pub somewhere : (row : ℕ × C) → In row (taken_in step) → (node : ℕ) × In row (takes_at node step)
  pub refused : taken_in step ≡ [] → (row : ℕ × C) → In row (proposal_of step) → (node : ℕ) →
      log_of (slice_get (whole_world next_world).nodes node)
      ≡ log_of (slice_get (whole_world world).nodes node)

-- what a step takes is at once at the end of a log
abbrev pub TakenStandAtOnce : {S C O : Type 0} → Rules S C O → Type 0
TakenStandAtOnce {S} {C} {O} rules =
    (config : Config) (moment next : Moment S C O) (moments : List (Moment S C O)) →
    Moments rules config (moment ∷ moments) →
    (step : MayHappen rules moment.master moment.world next.master next.world) → StandsAtOnce step

-- what was taken in a ballot was taken by the one node that was its active primary
abbrev pub OneNodeTakesABallot : {S C O : Type 0} → Rules S C O → Type 0
OneNodeTakesABallot {S} {C} {O} rules =
    (config : Config) (moment : Moment S C O) (moments : List (Moment S C O)) →
    (came : Moments rules config (moment ∷ moments)) →
    (earlier : Moment S C O) (node ballot : ℕ) → In earlier (moment ∷ moments) →
    IsPrimary (whole_world earlier.world) node ballot →
    rows_in ballot (taken_of came) ≡ rows_in ballot (taken_at node came)

-- the outputs of a node in a step are the answers at the next places of the agreed list
abbrev pub AnswersAtTheNextPlaces : {S C O : Type 0} → Rules S C O → Type 0
AnswersAtTheNextPlaces {S} {C} {O} rules =
    (config : Config) (moment next : Moment S C O) (moments : List (Moment S C O))
    (agreed : List C) → Moments rules config (moment ∷ moments) →
    IsAgreed config (map whole_moment (next ∷ moment ∷ moments)) agreed →
    (step : MayHappen rules moment.master moment.world next.master next.world) →
    (node : ℕ) (old new : ReplicaState S C) → slice_get moment.world.nodes node ≡ Some old →
    slice_get next.world.nodes node ≡ Some new →
    GivesNext rules (whole moment.world.archive old) (whole next.world.archive new) agreed
    (given_in node step)

-- Between two moments of a ballot that it leads a node outputs the answers at all places of the
-- agreed list that it applied between them: none is left out, and none comes twice.
abbrev pub AnswersWhileItLeads : {S C O : Type 0} → Rules S C O → Type 0
AnswersWhileItLeads {S} {C} {O} rules =
    (config : Config) (first last : Moment S C O) (moments later : List (Moment S C O))
    (agreed : List C) →
    (came : Moments rules config (first ∷ moments)) (more : Moments rules config (last ∷ later)) →
    IsAgreed config (map whole_moment (last ∷ later)) agreed → (node ballot : ℕ) →
    LeadsOn node ballot came last later more →
    (old new : ReplicaState S C) → slice_get first.world.nodes node ≡ Some old →
    slice_get last.world.nodes node ≡ Some new →
    (old.committed ≤ new.committed) × (new.committed ≤ length agreed)
    × (given_of node more
    ≡ given_of node came ++ outputs (outputs_between rules agreed old.committed new.committed))
