-- What was proposed to the nodes of a group that cuts its logs, in order, and which of it they
-- took.
use Rattle.std.specs.Prelude.{ℕ, ◌==◌, List, [], ◌∷◌, ◌++◌, nat_lt, if◌then◌else◌}
use Rattle.machine.specs.Machine.{Rules}
use Rattle.agreement.specs.MasterState.{MasterState}
use Rattle.ballot_base.specs.declared.config.Config.{Config}
use Rattle.ballot_base.specs.Logs.{places}
use Rattle.ballot_base.specs.Protocol.{Input}
use Rattle.ballot_base.specs.Protocol.Input.{Receives, Proposes, Ticks}
use Rattle.ballot_base.specs.Replica.{ReplicaState}
use Rattle.agreement.specs.cut_logs.Moments.{Moment, Moments}
use Rattle.agreement.specs.cut_logs.Moments.Moments.{began, went_on}
use Rattle.agreement.specs.cut_logs.Steps.{MayHappen}
use Rattle.agreement.specs.cut_logs.Steps.MayHappen.{node_goes, master_assigns, master_hears}
use Rattle.agreement.specs.cut_logs.Steps.MayHappen.{assignment_lost, answer_lost}
use Rattle.agreement.specs.cut_logs.World.{NodeGoes, CutGroupWorld}
use Rattle.agreement.specs.cut_logs.World.NodeGoes.{takes, stops, cuts}

-- the proposal that a node is given, with the ballot that it has joined
abbrev pub proposal_by : {S C : Type 0} → ReplicaState S C → Input C → List (ℕ × C)
proposal_by replica (Receives message) = []
proposal_by replica (Proposes command) = (replica.joined, command) ∷ []
proposal_by replica Ticks = []

-- what a node takes of an input: its log has more places after the step
abbrev pub taken_by : {S C : Type 0} → ReplicaState S C → ReplicaState S C → Input C → List (ℕ × C)
taken_by old new input =
    if nat_lt (places old.log) (places new.log) then proposal_by old input else []

-- what is proposed to a node in what it does; a cut proposes nothing
abbrev pub proposed_to : {S C O : Type 0} {rules : Rules S C O}
    {world next_world : CutGroupWorld S C O} → NodeGoes rules world next_world → List (ℕ × C)
proposed_to (takes node replica input stands runs may loses) = proposal_by replica input
proposed_to (stops node replica stands) = []
proposed_to (cuts node replica stands runs below reads) = []

-- what a node takes in a step of its own
abbrev pub taken_as : {S C O : Type 0} {rules : Rules S C O}
    {world next_world : CutGroupWorld S C O} → NodeGoes rules world next_world → List (ℕ × C)
taken_as (takes node replica input {new = new} {given = given} stands runs may loses) =
    taken_by replica new input
taken_as (stops node replica stands) = []
taken_as (cuts node replica stands runs below reads) = []

-- what the node at this index takes in a step of its own
abbrev pub taken_by_node : {S C O : Type 0} {rules : Rules S C O}
    {world next_world : CutGroupWorld S C O} → ℕ → NodeGoes rules world next_world → List (ℕ × C)
taken_by_node node (takes other replica input {new = new} {given = given} stands runs may loses) =
    if other == node then taken_by replica new input else []
taken_by_node node (stops other replica stands) = []
taken_by_node node (cuts other replica stands runs below reads) = []

-- what is proposed in a step of the group
abbrev pub proposal_of : {S C O : Type 0} {rules : Rules S C O} {master : MasterState}
    {world : CutGroupWorld S C O} {next_master : MasterState} {next_world : CutGroupWorld S C O} →
    MayHappen rules master world next_master next_world → List (ℕ × C)
proposal_of (node_goes goes) = proposed_to goes
proposal_of (master_assigns config) = []
proposal_of (master_hears from ballot sent) = []
proposal_of (assignment_lost config) = []
proposal_of (answer_lost from ballot sent) = []

-- what is taken in a step of the group
abbrev pub taken_in : {S C O : Type 0} {rules : Rules S C O} {master : MasterState}
    {world : CutGroupWorld S C O} {next_master : MasterState} {next_world : CutGroupWorld S C O} →
    MayHappen rules master world next_master next_world → List (ℕ × C)
taken_in (node_goes goes) = taken_as goes
taken_in (master_assigns config) = []
taken_in (master_hears from ballot sent) = []
taken_in (assignment_lost config) = []
taken_in (answer_lost from ballot sent) = []

-- what the node at this index takes in a step of the group
abbrev pub takes_at : {S C O : Type 0} {rules : Rules S C O} {master : MasterState}
    {world : CutGroupWorld S C O} {next_master : MasterState} {next_world : CutGroupWorld S C O} →
    ℕ → MayHappen rules master world next_master next_world → List (ℕ × C)
takes_at node (node_goes goes) = taken_by_node node goes
takes_at node (master_assigns config) = []
takes_at node (master_hears from ballot sent) = []
takes_at node (assignment_lost config) = []
takes_at node (answer_lost from ballot sent) = []

-- all that was proposed between moments, in order
abbrev pub proposals_of : {S C O : Type 0} {rules : Rules S C O} {config : Config}
    {moments : List (Moment S C O)} → Moments rules config moments → List (ℕ × C)
proposals_of (began greatest nodes lawful is) = []
proposals_of (went_on came step) = proposals_of came ++ proposal_of step

-- what was taken between moments, in order
abbrev pub taken_of : {S C O : Type 0} {rules : Rules S C O} {config : Config}
    {moments : List (Moment S C O)} → Moments rules config moments → List (ℕ × C)
taken_of (began greatest nodes lawful is) = []
taken_of (went_on came step) = taken_of came ++ taken_in step

-- what the node at this index took between moments
abbrev pub taken_at : {S C O : Type 0} {rules : Rules S C O} {config : Config}
    {moments : List (Moment S C O)} → ℕ → Moments rules config moments → List (ℕ × C)
taken_at node (began greatest nodes lawful is) = []
taken_at node (went_on came step) = taken_at node came ++ takes_at node step
