-- What the master answers, as the answers of its cluster's desk over any restarts (`desk`, `Runs`).
use Rattle.std.specs.Prelude.{◌≡◌, ℕ, ◌==◌, if◌then◌else◌, List, [], ◌∷◌, ◌++◌, Option, Some, None}
use Rattle.lists.specs.Lists.{In}
use Rattle.ballot_base.specs.declared.config.Config.{Config}
use Rattle.ballot_base.specs.declared.message.Body.{Body}
use Rattle.ballot_base.specs.declared.message.Body.TheVariants as bodies
use Rattle.broker_spec.specs.declared.command.Command.{Command}
use Rattle.cluster.specs.desk.Keeping.{DeskView}
use Rattle.cluster.specs.desk.Runs.{Answer, Ran}
use Rattle.cluster.specs.desk.Runs.Answer.{number, ballot, activated, superseded}
use Rattle.cluster.specs.desk.States.{DeskState}
use Rattle.links.specs.declared.parcel.Parcel.{Parcel}
use Rattle.links.specs.declared.parcel.Parcel.TheVariants as parcels

-- This is the next answer of each run that led to the old desk. So the new state was kept before.
abbrev pub IsNext : {K : Type 0} → (K → List (List ℕ)) → DeskView K → Answer → DeskView K → Type 0
IsNext stands old answer new = (given : List Answer) → Ran given old.state (stands old.keeper)
    → Ran (given ++ answer ∷ []) new.state (stands new.keeper)

-- each run that led to the old desk goes on without an answer
abbrev pub GoesOn : {K : Type 0} → (K → List (List ℕ)) → DeskView K → DeskView K → Type 0
GoesOn stands old new = (given : List Answer) → Ran given old.state (stands old.keeper)
    → Ran given new.state (stands new.keeper)

-- The desk goes on with each run after which these bytes may be read.
abbrev pub Resumes : {K : Type 0} → (K → List (List ℕ)) → List ℕ → DeskView K → Type 0
Resumes stands bytes desk =
    (given : List Answer) (state : DeskState) (stood : List (List ℕ)) → Ran given state stood
    → In bytes stood → Ran given desk.state (stands desk.keeper)

-- a message of the master, which has number 0
abbrev pub of_master : Body Command → Parcel
of_master body = parcels.Message (record { from = 0; body = body })

-- what a parcel tells of the desk's answers
abbrev pub told_by : Body Command → Option Answer
told_by (bodies.NewBallot b members previous earlier) = Some (ballot b)
told_by (bodies.Activated b) = Some (activated b)
told_by (bodies.Superseded b) = Some (superseded b)
told_by body = None

abbrev pub answer_in : Parcel → Option Answer
answer_in (parcels.Welcome n) = Some (number n)
answer_in (parcels.Message message) = told_by message.body
answer_in parcel = None

-- the parcel tells the next answer of the desk
abbrev pub TellsNext : {K : Type 0} → (K → List (List ℕ)) → DeskView K → Parcel → DeskView K → Type 0
TellsNext stands old parcel new =
    (answer : Answer) × (answer_in parcel ≡ Some answer) × IsNext stands old answer new

-- a body is about this ballot, and says whether it is active
abbrev pub AnswersActivate : ℕ → Body Command → Type 0
AnswersActivate b (bodies.Activated told) = told ≡ b
AnswersActivate b (bodies.Superseded told) = told ≡ b
AnswersActivate b body = ⊥

-- the parcel is the master's message about this ballot
abbrev pub TellsOf : ℕ → Parcel → Type 0
TellsOf b (parcels.Message message) = (message.from ≡ 0) × AnswersActivate b message.body
TellsOf b parcel = ⊥

-- the NewBallot of the ballot that waits, if this node is its primary
abbrev pub if_primary : DeskState → ℕ → Option (ℕ × Config) → Option Parcel
if_primary state node None = None
if_primary state node (Some (b, config)) = if config.primary == node
    then Some (of_master
    (bodies.NewBallot b config.members state.master.active state.master.members))
    else None

abbrev pub ballot_for : DeskState → ℕ → Option Parcel
ballot_for state node = if_primary state node state.master.waiting
