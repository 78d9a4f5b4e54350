-- The transitions of the protocol from the last Installed to Activated or Superseded, on whole
-- logs.
use Rattle.std.specs.Prelude.{ℕ, Bool, List, [], ◌∷◌, length, ◌==◌, ◌&&◌, nat_lt, nat_le}
use Rattle.std.specs.Prelude.{if◌then◌else◌}
use Rattle.std.specs.List.{list_any}
use Rattle.machine.specs.Machine.{Rules}
use Rattle.agreement.specs.whole_logs.Messages.Body.{Activate}
use Rattle.agreement.specs.whole_logs.Messages.{Effect}
use Rattle.ballot_base.specs.declared.status.Role.TheVariants.{Backup, Active}
use Rattle.agreement.specs.whole_logs.StepOutcome.{Outcome, nothing_done, message_to}
use Rattle.ballot_base.specs.StepOutcome.{master}
use Rattle.agreement.specs.whole_logs.Application.{applied_to}
use Rattle.ballot_base.specs.Service.{max_places}
use Rattle.agreement.specs.whole_logs.Service.{added}
use Rattle.agreement.specs.whole_logs.Replica.{ReplicaState}
use Rattle.ballot_base.specs.Replica.{is_installing, others, progress_at}

-- an Activate to the master if no member lacks the log any more, and otherwise nothing
abbrev pub activates : {S C : Type 0} (O : Type 0) → ReplicaState S C → List ℕ → List (Effect C O)
activates O replica [] = message_to O replica.id (Activate replica.joined) master ∷ []
activates O replica (member ∷ members) = []

-- whether this is the new primary of the ballot, and installs its log
abbrev pub is_installing_in : {S C : Type 0} → ReplicaState S C → ℕ → Bool
is_installing_in replica ballot = replica.joined == ballot && is_installing replica.role

-- Installed(ballot, ..): a member of this ballot now has the log; with the last one the master may
-- activate the ballot
unfoldable pub on_installed : {S C : Type 0} (O : Type 0) → ReplicaState S C → ℕ → ℕ → Outcome S C O
on_installed O replica from ballot =
    let fewer = record replica { lacking = others from replica.lacking } in
    if is_installing_in replica ballot && list_any (λ member. member == from) replica.lacking
    then record { state = fewer; effects = activates O fewer fewer.lacking }
    else nothing_done O replica

-- whether a ballot may begin at its new primary: no member lacks the log, and a place is left
abbrev pub may_begin : {S C : Type 0} → ReplicaState S C → ℕ → Bool
may_begin replica ballot =
    is_installing_in replica ballot
    && (nat_le (length replica.lacking) 0 && nat_lt (length replica.log) max_places)

-- Activated(ballot), if no member lacks the log: its places are applied, their outputs dropped, and
-- the start of the ballot is added after them
unfoldable pub on_activated : {S C O : Type 0} → Rules S C O → ReplicaState S C → ℕ → Outcome S C O
on_activated {O = O} rules replica ballot =
    let active = record (applied_to rules replica (length replica.log)) {
      role = Active;
      progress = progress_at (length replica.log) (others replica.id replica.members);
    } in
    if may_begin replica ballot
    then added rules active (rules.start_of ballot)
    else nothing_done O replica

-- Superseded(ballot): the new primary of this ballot gives it up, and is a backup then
unfoldable pub on_superseded : {S C : Type 0} (O : Type 0) → ReplicaState S C → ℕ → Outcome S C O
on_superseded O replica ballot =
    if is_installing_in replica ballot
    then record { state = record replica { role = Backup }; effects = [] }
    else nothing_done O replica
