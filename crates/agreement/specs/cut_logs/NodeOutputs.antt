-- The outputs of one node of a group that cuts its logs, in a step and while it leads one ballot.
use Rattle.std.specs.Prelude.{ℕ, ◌==◌, List, [], ◌∷◌, ◌++◌, if◌then◌else◌}
use Rattle.machine.specs.Machine.{Rules}
use Rattle.agreement.specs.MasterState.{MasterState}
use Rattle.agreement.specs.Primaries.{IsPrimary}
use Rattle.ballot_base.specs.declared.config.Config.{Config}
use Rattle.agreement.specs.cut_logs.Moments.{Moment, Moments}
use Rattle.agreement.specs.cut_logs.Moments.Moments.{began, went_on}
use Rattle.agreement.specs.cut_logs.Steps.{MayHappen}
use Rattle.agreement.specs.cut_logs.Steps.MayHappen.{node_goes, master_assigns, master_hears}
use Rattle.agreement.specs.cut_logs.Steps.MayHappen.{assignment_lost, answer_lost}
use Rattle.agreement.specs.cut_logs.World.{NodeGoes, CutGroupWorld, outputs, whole_world}
use Rattle.agreement.specs.cut_logs.World.NodeGoes.{takes, stops, cuts}

-- the outputs of the node at this index in a step, each with its place in the list
abbrev pub given_by_node : {S C O : Type 0} {rules : Rules S C O}
    {world next_world : CutGroupWorld S C O} → ℕ → NodeGoes rules world next_world → List (ℕ × O)
given_by_node node (takes other replica input {new = new} {given = given} stands runs may loses) =
    if other == node then outputs given else []
given_by_node node (stops other replica stands) = []
given_by_node node (cuts other replica stands runs below reads) = []

-- the outputs of that node in a step of the group
abbrev pub given_in : {S C O : Type 0} {rules : Rules S C O} {master : MasterState}
    {world : CutGroupWorld S C O} {next_master : MasterState} {next_world : CutGroupWorld S C O} →
    ℕ → MayHappen rules master world next_master next_world → List (ℕ × O)
given_in node (node_goes goes) = given_by_node node goes
given_in node (master_assigns config) = []
given_in node (master_hears from ballot sent) = []
given_in node (assignment_lost config) = []
given_in node (answer_lost from ballot sent) = []

-- all that it output up to the last of some moments, in order
abbrev pub given_of : {S C O : Type 0} {rules : Rules S C O} {config : Config}
    {moments : List (Moment S C O)} → ℕ → Moments rules config moments → List (ℕ × O)
given_of node (began greatest nodes lawful is) = []
given_of node (went_on came step) = given_of node came ++ given_in node step

-- moments continue from a moment, and the node at an index is the active primary of a ballot at
-- that moment and at each later one
pub data LeadsOn {S C O : Type 0} {rules : Rules S C O} {config : Config} (node ballot : ℕ)
    {moment : Moment S C O} {moments : List (Moment S C O)}
    (came : Moments rules config (moment ∷ moments)) :
    (last : Moment S C O) (later : List (Moment S C O)) → Moments rules config (last ∷ later) →
    Type 0 where
  -- it leads at the moment itself
  leads_there : IsPrimary (whole_world moment.world) node ballot →
      LeadsOn node ballot came moment moments came
  -- it still leads after one more step
  leads_still : {previous next : Moment S C O} {later : List (Moment S C O)}
      {more : Moments rules config (previous ∷ later)} →
      LeadsOn node ballot came previous later more →
      (step : MayHappen rules previous.master previous.world next.master next.world) →
      IsPrimary (whole_world next.world) node ballot →
      LeadsOn node ballot came next (previous ∷ later) (went_on more step)
