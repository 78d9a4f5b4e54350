-- The transitions of the protocol within a ballot: Append, Held, Commit, proposals, ticks. Messages
-- go to members in rising order. A message whose condition does not hold changes nothing.
use Rattle.std.specs.Prelude.{ℕ, Bool, List, [], ◌∷◌, ◌++◌, map, min, max, Option, Some, None, ◌==◌, ◌&&◌, nat_lt, nat_le, if◌then◌else◌}
use Rattle.std.specs.List.{flat_map}
use Rattle.machine.specs.Machine.{Rules}
use Rattle.ballot_base.specs.declared.limits.TheConstants.{MAX_PLACES}
use Rattle.ballot_base.specs.declared.message.Body.TheVariants.{Append, Held, Commit}
use Rattle.ballot_base.specs.declared.message.Effect.{Effect}
use Rattle.ballot_base.specs.declared.status.Progress.{Progress}
use Rattle.ballot_base.specs.Application.{outputs_to, applied_to}
use Rattle.ballot_base.specs.Logs.{Log, command_at, places, pushed}
use Rattle.ballot_base.specs.StepOutcome.{Outcome, nothing_done, message_to}
use Rattle.ballot_base.specs.StepOutcome.{message_to_followed, sent_first}
use Rattle.ballot_base.specs.Replica.{ReplicaState, is_active, is_backup}

-- the smallest of a length and all progress
abbrev pub least : ℕ → List Progress → ℕ
least held [] = held
least held (reached ∷ progress) = least (min held reached.held) progress

-- raises the progress of a member to what it now holds, if it was lower
abbrev pub raised_progress : ℕ → ℕ → Progress → Progress
raised_progress member held reached =
    if reached.member == member then record reached { held = max reached.held held } else reached

-- the progress list, with that of one member raised
abbrev pub raised : ℕ → ℕ → List Progress → List Progress
raised member held progress = map (raised_progress member held) progress

-- places below `held` are applied, their outputs returned, and Commit is sent to the other members
unfoldable pub commit_at : {S C O : Type 0} → Rules S C O → ReplicaState S C → ℕ → Outcome S C O
commit_at {O = O} rules replica held =
    if nat_lt replica.committed held
    then record {
      state = applied_to rules replica held;
      effects = outputs_to rules replica held
          ++ message_to_followed O replica.id (Commit replica.joined held) replica.progress;
    } else nothing_done O replica

-- what every member holds is committed
unfoldable pub commit : {S C O : Type 0} → Rules S C O → ReplicaState S C → Outcome S C O
commit rules replica = commit_at rules replica (least (places replica.log) replica.progress)

-- the most places of a log
abbrev pub max_places : ℕ
max_places = MAX_PLACES

-- a command is appended to the log and sent to the other members; what all hold is committed
unfoldable pub added : {S C O : Type 0} → Rules S C O → ReplicaState S C → C → Outcome S C O
added {O = O} rules replica command =
    sent_first (message_to_followed O replica.id
    (Append replica.joined (places replica.log) command) replica.progress)
    (commit rules (record replica { log = pushed replica.log command }))

-- a proposal counts at an active primary whose log has room
unfoldable pub proposed : {S C O : Type 0} → Rules S C O → ReplicaState S C → C → Outcome S C O
proposed {O = O} rules replica command =
    if is_active replica.role && nat_lt (places replica.log) max_places
    then added rules replica command else nothing_done O replica

-- whether a replica is a backup that holds the log of a ballot
abbrev pub follows : {S C : Type 0} → ReplicaState S C → ℕ → Bool
follows replica ballot =
    (replica.joined == ballot && replica.held_in == ballot) && is_backup replica.role

-- whether a replica is the active primary of the ballot
abbrev pub leads : {S C : Type 0} → ReplicaState S C → ℕ → Bool
leads replica ballot = replica.joined == ballot && is_active replica.role

-- the log with a command appended, if the command's place is the next one
abbrev pub extended : {C : Type 0} → ℕ → C → Log C → Log C
extended place command log = if place == places log then pushed log command else log

-- Append(ballot, place, command)
unfoldable pub on_append : {S C : Type 0} (O : Type 0) →
    ReplicaState S C → ℕ → ℕ → ℕ → C → Outcome S C O
on_append O replica from ballot place command =
    let log = extended place command replica.log in
    if follows replica ballot && nat_le place (places replica.log)
    then record {
      state = record replica { log = log };
      effects = message_to O replica.id (Held ballot (places log)) from ∷ [];
    } else nothing_done O replica

-- Held(ballot, held)
unfoldable pub on_held : {S C O : Type 0} →
    Rules S C O → ReplicaState S C → ℕ → ℕ → ℕ → Outcome S C O
on_held {O = O} rules replica from ballot held =
    if leads replica ballot
    then commit rules (record replica { progress = raised from held replica.progress })
    else nothing_done O replica

-- Commit(ballot, held): only the primary returns the outputs, a backup drops them
unfoldable pub on_commit : {S C O : Type 0} → Rules S C O → ReplicaState S C → ℕ → ℕ → Outcome S C O
on_commit {O = O} rules replica ballot held =
    if follows replica ballot && nat_le held (places replica.log)
    then record { state = applied_to rules replica (max replica.committed held); effects = [] }
    else nothing_done O replica

-- what a member may lack: the command at its progress, if the log keeps it
abbrev pub append_at : {C : Type 0} (O : Type 0) → ℕ → ℕ → Progress → Option C → List (Effect C O)
append_at O id ballot reached None = []
append_at O id ballot reached (Some command) =
    message_to O id (Append ballot reached.held command) reached.member ∷ []

-- the command that each member lacks next, as messages
abbrev pub appends_after : {C : Type 0} (O : Type 0) →
    ℕ → ℕ → Log C → List Progress → List (Effect C O)
appends_after O id ballot log progress =
    flat_map (λ reached. append_at O id ballot reached (command_at log reached.held)) progress

-- an active primary repeats what the other members lack, and what is committed
unfoldable pub on_tick_active : {S C : Type 0} (O : Type 0) → ReplicaState S C → Outcome S C O
on_tick_active O replica =
    record {
      state = replica;
      effects = appends_after O replica.id replica.joined replica.log replica.progress
          ++ message_to_followed O replica.id (Commit replica.joined replica.committed)
          replica.progress;
    }
