-- The theorems about all moments of a group whose master answers each Assign.
use Rattle.std.specs.Prelude.{ℕ, Bool, ◌≤◌, ◌≡◌, List, [], ◌∷◌, ◌++◌, filter, length}
use Rattle.std.specs.Prelude.{slice_get, Some}
use Rattle.machine.specs.Machine.{Rules}
use Rattle.lists.specs.Lists.{In, IsPrefixOf}
use Rattle.agreement.specs.whole_logs.Application.{outputs_between}
use Rattle.ballot_base.specs.declared.config.Config.{Config}
use Rattle.agreement.specs.whole_logs.Replica.{ReplicaState}
use Rattle.agreement.specs.Agreement.{Agrees, Holds}
use Rattle.agreement.specs.NodeOutputs.{GivesNext, LeadsOn, given_in, given_of}
use Rattle.agreement.specs.LeftOutputs.{LeftInOrder}
use Rattle.agreement.specs.MasterState.{MasterState}
use Rattle.agreement.specs.Moments.{Moment, Moments, IsAgreed}
use Rattle.agreement.specs.Primaries.{IsPrimary}
use Rattle.agreement.specs.Proposals.{IsOfBallot, IsPartOf, IsTaken, commands_of, proposal_of}
use Rattle.agreement.specs.Proposals.{proposals_of, rows_in, taken_at, taken_in, taken_of, takes_at}
use Rattle.agreement.specs.Replays.{AreReplays}
use Rattle.agreement.specs.Steps.{MayHappen}
use Rattle.agreement.specs.World.{GroupWorld, log_of, outputs}

-- there is an agreed list at each moment
abbrev pub HasAgreed : {S C O : Type 0} → Rules S C O → Type 0
HasAgreed {S} {C} {O} rules =
    (config : Config) (moment : Moment S C O) (moments : List (Moment S C O)) →
    Moments rules config (moment ∷ moments) →
    (agreed : List C) × IsAgreed config (moment ∷ moments) agreed

-- the nodes agree on each agreed list, a member of the active ballot holds it, and what left is its
-- answers in order
abbrev pub NodesAgree : {S C O : Type 0} → Rules S C O → Type 0
NodesAgree {S} {C} {O} rules =
    (config : Config) (moment : Moment S C O) (moments : List (Moment S C O)) (agreed : List C) →
    Moments rules config (moment ∷ moments) → IsAgreed config (moment ∷ moments) agreed →
    Agrees rules moment.master moment.world agreed × Holds moment.master moment.world agreed
    × LeftInOrder rules (moment ∷ moments) moment.world agreed

-- the agreed list is a prefix of the agreed list at the next moment
abbrev pub AgreedGrows : {S C O : Type 0} → Rules S C O → Type 0
AgreedGrows {S} {C} {O} rules =
    (config : Config) (moment : Moment S C O) (moments : List (Moment S C O))
    (agreed later : List C) → IsAgreed config moments agreed →
    IsAgreed config (moment ∷ moments) later → IsPrefixOf agreed later

-- the machine of each node that runs is the replay of the places that it applied
abbrev pub MachinesReplay : {S C O : Type 0} → Rules S C O → Type 0
MachinesReplay {S} {C} {O} rules =
    (config : Config) (moment : Moment S C O) (moments : List (Moment S C O)) →
    Moments rules config (moment ∷ moments) → AreReplays rules moment.world

-- of the commands that were taken only in one ballot, each log has a prefix in the order of
-- proposing
abbrev pub KeepsTheOrder : {S C O : Type 0} → Rules S C O → Type 0
KeepsTheOrder {S} {C} {O} rules =
    (config : Config) (moment : Moment S C O) (moments : List (Moment S C O)) →
    (came : Moments rules config (moment ∷ moments)) →
    IsPartOf (taken_of came) (proposals_of came)
    × ((names : C → Bool) (ballot : ℕ) → IsOfBallot rules.start_of names ballot (taken_of came) →
    (node : ℕ) (replica : ReplicaState S C) → slice_get moment.world.nodes node ≡ Some replica →
    IsPrefixOf (filter names replica.log) (filter names (commands_of (taken_of came))))

-- what a node takes in a step is at once at the end of its log; everything that is taken is taken
-- by some node; and a proposal that is not taken changes no log
pub record StandsAtOnce {S C O : Type 0} {rules : Rules S C O} {master : MasterState}
    {world : GroupWorld S C O} {next_master : MasterState} {next_world : GroupWorld S C O}
    (step : MayHappen rules master world next_master next_world) : Type 0 where
  pub stands : (node : ℕ) (row : ℕ × C) → In row (takes_at node step) →
      IsTaken world next_world node row
  pub somewhere : (row : ℕ × C) → In row (taken_in step) → (node : ℕ) × In row (takes_at node step)
  pub refused : taken_in step ≡ [] → (row : ℕ × C) → In row (proposal_of step) →
      (node : ℕ) → log_of (slice_get next_world.nodes node) ≡ log_of (slice_get world.nodes node)

-- in each step, what is taken stands at the end of a log at once (`StandsAtOnce`)
abbrev pub TakenStandAtOnce : {S C O : Type 0} → Rules S C O → Type 0
TakenStandAtOnce {S} {C} {O} rules =
    (master : MasterState) (world : GroupWorld S C O)
    (next_master : MasterState) (next_world : GroupWorld S C O) →
    (step : MayHappen rules master world next_master next_world) → StandsAtOnce step

-- a ballot has one active primary at most, over all moments of a group
abbrev pub OnePrimaryABallot : {S C O : Type 0} → Rules S C O → Type 0
OnePrimaryABallot {S} {C} {O} rules =
    (config : Config) (moment : Moment S C O) (moments : List (Moment S C O)) →
    Moments rules config (moment ∷ moments) →
    (first second : Moment S C O) (node other ballot : ℕ) →
    In first (moment ∷ moments) → In second (moment ∷ moments) →
    IsPrimary first.world node ballot → IsPrimary second.world other ballot → node ≡ other

-- what was taken in a ballot was taken by the one node that was its active primary
abbrev pub OneNodeTakesABallot : {S C O : Type 0} → Rules S C O → Type 0
OneNodeTakesABallot {S} {C} {O} rules =
    (config : Config) (moment : Moment S C O) (moments : List (Moment S C O)) →
    (came : Moments rules config (moment ∷ moments)) →
    (earlier : Moment S C O) (node ballot : ℕ) → In earlier (moment ∷ moments) →
    IsPrimary earlier.world node ballot →
    rows_in ballot (taken_of came) ≡ rows_in ballot (taken_at node came)

-- the outputs of a node in a step are the answers at the next places of the agreed list
abbrev pub AnswersAtTheNextPlaces : {S C O : Type 0} → Rules S C O → Type 0
AnswersAtTheNextPlaces {S} {C} {O} rules =
    (config : Config) (moment next : Moment S C O) (moments : List (Moment S C O))
    (agreed : List C) → Moments rules config (moment ∷ moments) →
    IsAgreed config (next ∷ moment ∷ moments) agreed →
    (step : MayHappen rules moment.master moment.world next.master next.world) →
    (node : ℕ) (old new : ReplicaState S C) → slice_get moment.world.nodes node ≡ Some old →
    slice_get next.world.nodes node ≡ Some new → GivesNext rules old new agreed (given_in node step)

-- Between two moments of a ballot that it leads a node outputs the answers at all places of the
-- agreed list that it applied between them: none is left out, and none comes twice.
abbrev pub AnswersWhileItLeads : {S C O : Type 0} → Rules S C O → Type 0
AnswersWhileItLeads {S} {C} {O} rules =
    (config : Config) (first last : Moment S C O) (moments later : List (Moment S C O))
    (agreed : List C) →
    (came : Moments rules config (first ∷ moments)) (more : Moments rules config (last ∷ later)) →
    IsAgreed config (last ∷ later) agreed → (node ballot : ℕ) →
    LeadsOn node ballot came last later more →
    (old new : ReplicaState S C) → slice_get first.world.nodes node ≡ Some old →
    slice_get last.world.nodes node ≡ Some new →
    (old.committed ≤ new.committed) × (new.committed ≤ length agreed)
    × (given_of node more
    ≡ given_of node came ++ outputs (outputs_between rules agreed old.committed new.committed))
