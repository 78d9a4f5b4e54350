-- The outputs of one node, in a step and between two moments at which it leads one ballot.
use Rattle.std.specs.Prelude.{ℕ, true, false, ◌≤◌, ◌≡◌, ◌==◌, List, [], ◌∷◌, ◌++◌}
use Rattle.std.specs.Prelude.{length, if◌then◌else◌}
use Rattle.machine.specs.Machine.{Rules}
use Rattle.agreement.specs.whole_logs.Application.{outputs_between}
use Rattle.ballot_base.specs.declared.config.Config.{Config}
use Rattle.agreement.specs.whole_logs.Replica.{ReplicaState}
use Rattle.ballot_base.specs.Replica.{is_active}
use Rattle.agreement.specs.MasterState.{MasterState}
use Rattle.agreement.specs.Moments.{Learns, Moment, Moments}
use Rattle.agreement.specs.Moments.Moments.{began, went_on, learned}
use Rattle.agreement.specs.Primaries.{IsPrimary}
use Rattle.agreement.specs.Steps.{MayHappen}
use Rattle.agreement.specs.Steps.MayHappen.{node_takes, node_stops, master_assigns, master_hears}
use Rattle.agreement.specs.Steps.MayHappen.{assignment_lost, answer_lost}
use Rattle.agreement.specs.World.{GroupWorld, outputs}

-- the outputs of the node at this index in a step, each with its place in the list
abbrev pub given_in : {S C O : Type 0} {rules : Rules S C O} {master : MasterState}
    {world : GroupWorld S C O} {next_master : MasterState} {next_world : GroupWorld S C O} → ℕ →
    MayHappen rules master world next_master next_world → List (ℕ × O)
given_in node (node_takes other replica input {new = new} {given = given} stands runs may loses) =
    if other == node then outputs given else []
given_in node (node_stops other replica stands) = []
given_in node (master_assigns config) = []
given_in node (master_hears from ballot sent) = []
given_in node (assignment_lost config) = []
given_in node (answer_lost from ballot sent) = []

-- all that it output up to the last of some moments, in order
abbrev pub given_of : {S C O : Type 0} {rules : Rules S C O} {config : Config}
    {moments : List (Moment S C O)} → ℕ → Moments rules config moments → List (ℕ × O)
given_of node (began greatest nodes lawful is) = []
given_of node (went_on came step) = given_of node came ++ given_in node step
given_of node (learned came learns) = given_of node came

-- the place from which a node's outputs start: how far it has applied its log, if it is the active
-- primary; one that becomes it applies its whole log first, and outputs nothing for that
abbrev pub gives_from : {S C : Type 0} → ReplicaState S C → ℕ
gives_from replica = if is_active replica.role then replica.committed else length replica.log

-- what a node outputs while its state changes: nothing if it is no active primary, otherwise the
-- machine's answers at the places of the list between the old applied length and the new one
pub record GivesNext {S C O : Type 0} (rules : Rules S C O) (old new : ReplicaState S C)
    (list : List C) (given : List (ℕ × O)) : Type 0 where
  pub idle : is_active new.role ≡ false → given ≡ []
  pub rising : is_active new.role ≡ true → gives_from old ≤ new.committed
  pub inside : new.committed ≤ length list
  pub next : is_active new.role ≡ true →
      given ≡ outputs (outputs_between rules list (gives_from old) new.committed)

-- moments continue from a moment, by steps and by nodes that learn, and the node at an index is the
-- active primary of a ballot at that moment and at each later one
pub data LeadsOn {S C O : Type 0} {rules : Rules S C O} {config : Config} (node ballot : ℕ)
    {moment : Moment S C O} {moments : List (Moment S C O)}
    (came : Moments rules config (moment ∷ moments)) :
    (last : Moment S C O) (later : List (Moment S C O)) → Moments rules config (last ∷ later) →
    Type 0 where
  -- it leads at the moment itself
  leads_there : IsPrimary moment.world node ballot → LeadsOn node ballot came moment moments came
  -- it still leads after one more step
  leads_still : {previous next : Moment S C O} {later : List (Moment S C O)}
      {more : Moments rules config (previous ∷ later)} →
      LeadsOn node ballot came previous later more →
      (step : MayHappen rules previous.master previous.world next.master next.world) →
      IsPrimary next.world node ballot →
      LeadsOn node ballot came next (previous ∷ later) (went_on more step)
  -- it still leads after a node learned something
  leads_beside : {previous next : Moment S C O} {later : List (Moment S C O)}
      {more : Moments rules config (previous ∷ later)} →
      LeadsOn node ballot came previous later more →
      (learns : Learns rules (previous ∷ later) previous next) → IsPrimary next.world node ballot →
      LeadsOn node ballot came next (previous ∷ later) (learned more learns)
