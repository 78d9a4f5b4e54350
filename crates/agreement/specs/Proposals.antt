-- What was proposed to nodes, in order, what of it they took, and what logs keep of that order.
use Rattle.std.specs.Prelude.{ℕ, Bool, true, false, ◌≡◌, List, [], ◌∷◌, ◌++◌, length, filter}
use Rattle.std.specs.Prelude.{slice_get, Some, nat_lt, ◌==◌, if◌then◌else◌}
use Rattle.machine.specs.Machine.{Rules}
use Rattle.lists.specs.Lists.{In}
use Rattle.ballot_base.specs.declared.config.Config.{Config}
use Rattle.agreement.specs.whole_logs.Protocol.{Input}
use Rattle.agreement.specs.whole_logs.Protocol.Input.{Receives, Proposes, Ticks}
use Rattle.agreement.specs.whole_logs.Replica.{ReplicaState}
use Rattle.agreement.specs.MasterState.{MasterState}
use Rattle.agreement.specs.Moments.{Moment, Moments}
use Rattle.agreement.specs.Moments.Moments.{began, went_on, learned}
use Rattle.agreement.specs.Primaries.{IsPrimary}
use Rattle.agreement.specs.Steps.{MayHappen}
use Rattle.agreement.specs.Steps.MayHappen.{node_takes, node_stops, master_assigns, master_hears}
use Rattle.agreement.specs.Steps.MayHappen.{assignment_lost, answer_lost}
use Rattle.agreement.specs.World.{GroupWorld}

-- the proposal that a node is given, with the ballot that it has joined
abbrev pub proposal_by : {S C : Type 0} → ReplicaState S C → Input C → List (ℕ × C)
proposal_by replica (Receives message) = []
proposal_by replica (Proposes command) = (replica.joined, command) ∷ []
proposal_by replica Ticks = []

-- the proposal of a step, if it has one
abbrev pub proposal_of : {S C O : Type 0} {rules : Rules S C O} {master : MasterState}
    {world : GroupWorld S C O} {next_master : MasterState} {next_world : GroupWorld S C O} →
    MayHappen rules master world next_master next_world → List (ℕ × C)
proposal_of (node_takes node replica input stands runs may loses) = proposal_by replica input
proposal_of (node_stops node replica stands) = []
proposal_of (master_assigns config) = []
proposal_of (master_hears from ballot sent) = []
proposal_of (assignment_lost config) = []
proposal_of (answer_lost from ballot sent) = []

-- all proposals between moments, in order
abbrev pub proposals_of : {S C O : Type 0} {rules : Rules S C O} {config : Config}
    {moments : List (Moment S C O)} → Moments rules config moments → List (ℕ × C)
proposals_of (began greatest nodes lawful is) = []
proposals_of (went_on came step) = proposals_of came ++ proposal_of step
proposals_of (learned came learns) = proposals_of came

-- what a node takes of an input: its log is longer after the step
abbrev pub taken_by : {S C : Type 0} → ReplicaState S C → ReplicaState S C → Input C → List (ℕ × C)
taken_by old new input =
    if nat_lt (length old.log) (length new.log) then proposal_by old input else []

-- what is taken in a step
abbrev pub taken_in : {S C O : Type 0} {rules : Rules S C O} {master : MasterState}
    {world : GroupWorld S C O} {next_master : MasterState} {next_world : GroupWorld S C O} →
    MayHappen rules master world next_master next_world → List (ℕ × C)
taken_in (node_takes node replica input {new = new} {given = given} stands runs may loses) =
    taken_by replica new input
taken_in (node_stops node replica stands) = []
taken_in (master_assigns config) = []
taken_in (master_hears from ballot sent) = []
taken_in (assignment_lost config) = []
taken_in (answer_lost from ballot sent) = []

-- all that was taken between moments, in order
abbrev pub taken_of : {S C O : Type 0} {rules : Rules S C O} {config : Config}
    {moments : List (Moment S C O)} → Moments rules config moments → List (ℕ × C)
taken_of (began greatest nodes lawful is) = []
taken_of (went_on came step) = taken_of came ++ taken_in step
taken_of (learned came learns) = taken_of came

-- what the node at this index took in a step
abbrev pub takes_at : {S C O : Type 0} {rules : Rules S C O} {master : MasterState}
    {world : GroupWorld S C O} {next_master : MasterState} {next_world : GroupWorld S C O} → ℕ →
    MayHappen rules master world next_master next_world → List (ℕ × C)
takes_at node (node_takes other replica input {new = new} {given = given} stands runs may loses) =
    if other == node then taken_by replica new input else []
takes_at node (node_stops other replica stands) = []
takes_at node (master_assigns config) = []
takes_at node (master_hears from ballot sent) = []
takes_at node (assignment_lost config) = []
takes_at node (answer_lost from ballot sent) = []

-- what the node at this index took between moments
abbrev pub taken_at : {S C O : Type 0} {rules : Rules S C O} {config : Config}
    {moments : List (Moment S C O)} → ℕ → Moments rules config moments → List (ℕ × C)
taken_at node (began greatest nodes lawful is) = []
taken_at node (went_on came step) = taken_at node came ++ takes_at node step
taken_at node (learned came learns) = taken_at node came

-- the proposals of one ballot
abbrev pub rows_in : {C : Type 0} → ℕ → List (ℕ × C) → List (ℕ × C)
rows_in {C} ballot rows = filter (λ (row : ℕ × C). row.0 == ballot) rows

-- the node at this index took a proposal in a step: it ran, was the active primary of the ballot
-- that the proposal names, and appended the command at the end of its log
pub record IsTaken {S C O : Type 0} (world next_world : GroupWorld S C O) (node : ℕ)
    (row : ℕ × C) : Type 0 where
  pub primary : IsPrimary world node row.0
  pub runs : primary.replica.stopped ≡ false
  pub after : ReplicaState S C
  pub stands : slice_get next_world.nodes node ≡ Some after
  pub log : after.log ≡ primary.replica.log ++ row.1 ∷ []

-- a sublist, in order
pub data IsPartOf {X : Type 0} : List X → List X → Type 0 where
  -- both lists are empty
  nothing_left : IsPartOf [] []
  -- the next one is kept
  with_one : {one : X} {xs ys : List X} → IsPartOf xs ys → IsPartOf (one ∷ xs) (one ∷ ys)
  -- the next one is left out
  without_one : {other : X} {xs ys : List X} → IsPartOf xs ys → IsPartOf xs (other ∷ ys)

-- the commands of proposals
abbrev pub commands_of : {C : Type 0} → List (ℕ × C) → List C
commands_of [] = []
commands_of (row ∷ rows) = row.1 ∷ commands_of rows

-- commands that the test holds for are proposed in this ballot alone, and no ballot's start is one
pub record IsOfBallot {C : Type 0} (start_of : ℕ → C) (names : C → Bool) (ballot : ℕ)
    (proposals : List (ℕ × C)) : Type 0 where
  pub starts : (other : ℕ) → names (start_of other) ≡ false
  pub only : (row : ℕ × C) → In row proposals → names row.1 ≡ true → row.0 ≡ ballot
