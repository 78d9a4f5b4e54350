-- The transitions of the protocol within a ballot: Append, Held, Commit, proposals, ticks. Messages
-- go to members in rising order. A message whose condition does not hold changes nothing.
use Rattle.std.specs.Prelude.{ℕ, Bool, List, [], ◌∷◌, ◌++◌, length, max, slice_get, Option, Some}
use Rattle.std.specs.Prelude.{None, ◌==◌, ◌&&◌, nat_lt, nat_le, if◌then◌else◌}
use Rattle.std.specs.List.{flat_map}
use Rattle.machine.specs.Machine.{Rules}
use Rattle.agreement.specs.whole_logs.Messages.Body.{Append, Held, Commit}
use Rattle.agreement.specs.whole_logs.Messages.{Effect}
use Rattle.ballot_base.specs.declared.status.Progress.{Progress}
use Rattle.agreement.specs.whole_logs.Application.{outputs_to, applied_to}
use Rattle.agreement.specs.whole_logs.StepOutcome.{Outcome, nothing_done, message_to, message_to_followed, sent_first}
use Rattle.agreement.specs.whole_logs.Replica.{ReplicaState}
use Rattle.ballot_base.specs.Replica.{is_active, is_backup}
pub use Rattle.ballot_base.specs.Service.{least, raised_progress, raised, max_places}

-- places below `held` are applied, their outputs returned, and Commit is sent to the other members
unfoldable pub commit_at : {S C O : Type 0} → Rules S C O → ReplicaState S C → ℕ → Outcome S C O
commit_at {O = O} rules replica held =
    if nat_lt replica.committed held
    then record {
      state = applied_to rules replica held;
      effects = outputs_to rules replica held
          ++ message_to_followed O replica.id (Commit replica.joined held) replica.progress;
    }
    else nothing_done O replica

-- what every member holds is committed
unfoldable pub commit : {S C O : Type 0} → Rules S C O → ReplicaState S C → Outcome S C O
commit rules replica = commit_at rules replica (least (length replica.log) replica.progress)

-- a command is appended to the log and sent to the other members; what all hold is committed
unfoldable pub added : {S C O : Type 0} → Rules S C O → ReplicaState S C → C → Outcome S C O
added {O = O} rules replica command =
    sent_first
    (message_to_followed O replica.id (Append replica.joined (length replica.log) command)
    replica.progress)
    (commit rules (record replica { log = replica.log ++ command ∷ [] }))

-- a proposal counts at an active primary whose log has room
unfoldable pub proposed : {S C O : Type 0} → Rules S C O → ReplicaState S C → C → Outcome S C O
proposed {O = O} rules replica command =
    if is_active replica.role && nat_lt (length replica.log) max_places
    then added rules replica command
    else nothing_done O replica

-- whether a replica is a backup that holds the log of a ballot
abbrev pub follows : {S C : Type 0} → ReplicaState S C → ℕ → Bool
follows replica ballot =
    (replica.joined == ballot && replica.held_in == ballot) && is_backup replica.role

-- whether a replica is the active primary of the ballot
abbrev pub leads : {S C : Type 0} → ReplicaState S C → ℕ → Bool
leads replica ballot = replica.joined == ballot && is_active replica.role

-- the log with a command appended, if the command's place is the next one
abbrev pub extended : {C : Type 0} → ℕ → C → List C → List C
extended place command log = if place == length log then log ++ command ∷ [] else log

-- Append(ballot, place, command)
unfoldable pub on_append : {S C : Type 0} (O : Type 0) →
    ReplicaState S C → ℕ → ℕ → ℕ → C → Outcome S C O
on_append O replica from ballot place command =
    let log = extended place command replica.log in
    if follows replica ballot && nat_le place (length replica.log)
    then record {
      state = record replica { log = log };
      effects = message_to O replica.id (Held ballot (length log)) from ∷ [];
    }
    else nothing_done O replica

-- Held(ballot, held)
unfoldable pub on_held : {S C O : Type 0} →
    Rules S C O → ReplicaState S C → ℕ → ℕ → ℕ → Outcome S C O
on_held {O = O} rules replica from ballot held =
    if leads replica ballot
    then commit rules (record replica { progress = raised from held replica.progress })
    else nothing_done O replica

-- Commit(ballot, held): only the primary returns the outputs, a backup drops them
unfoldable pub on_commit : {S C O : Type 0} → Rules S C O → ReplicaState S C → ℕ → ℕ → Outcome S C O
on_commit {O = O} rules replica ballot held =
    if follows replica ballot && nat_le held (length replica.log)
    then record { state = applied_to rules replica (max replica.committed held); effects = [] }
    else nothing_done O replica

-- what a member may lack: the place at its progress, if the log has it
abbrev pub append_at : {C : Type 0} (O : Type 0) → ℕ → ℕ → Progress → Option C → List (Effect C O)
append_at O id ballot reached None = []
append_at O id ballot reached (Some command) =
    message_to O id (Append ballot reached.held command) reached.member ∷ []

-- the command that each member lacks next, as messages
abbrev pub appends_after : {C : Type 0} (O : Type 0) →
    ℕ → ℕ → List C → List Progress → List (Effect C O)
appends_after O id ballot log progress =
    flat_map (λ reached. append_at O id ballot reached (slice_get log reached.held)) progress

-- an active primary repeats what the other members lack, and what is committed
unfoldable pub on_tick_active : {S C : Type 0} (O : Type 0) → ReplicaState S C → Outcome S C O
on_tick_active O replica =
    record {
      state = replica;
      effects = appends_after O replica.id replica.joined replica.log replica.progress
          ++ message_to_followed O replica.id (Commit replica.joined replica.committed)
          replica.progress;
    }
