-- The transitions of the protocol between ballots, from NewBallot to Install, and the ticks of a
-- new primary. A message whose condition does not hold changes nothing.
use Rattle.std.specs.Prelude.{ℕ, Bool, Option, Some, None, List, [], ◌∷◌, ◌==◌, ◌&&◌, ◌||◌, nat_lt}
use Rattle.std.specs.Prelude.{nat_le, if◌then◌else◌}
use Rattle.machine.specs.Machine.{Rules}
use Rattle.ballot_base.specs.declared.message.Body.TheVariants.{Join, State, Install}
use Rattle.ballot_base.specs.declared.message.Body.TheVariants.{Installed, Activate}
use Rattle.ballot_base.specs.declared.message.Effect.{Effect}
use Rattle.ballot_base.specs.declared.status.Role.TheVariants.{Backup, Fetching, Installing}
use Rattle.ballot_base.specs.StepOutcome.{Outcome, nothing_done, message_to, message_to_each, master}
use Rattle.ballot_base.specs.Logs.{Log, places}
use Rattle.ballot_base.specs.TakenLog.{taken}
use Rattle.ballot_base.specs.Replica.{ReplicaState, is_fetching, others}

-- NewBallot: a new primary asks the members of the earlier ballot, also itself, for their logs
unfoldable pub on_new_ballot : {S C : Type 0} (O : Type 0) →
    ReplicaState S C → ℕ → List ℕ → ℕ → List ℕ → Outcome S C O
on_new_ballot O replica ballot members previous previous_members =
    if nat_lt replica.joined ballot
    then record {
      state = record replica {
        joined = ballot;
        role = Fetching;
        members = members;
        previous = previous;
        previous_members = previous_members;
        lacking = [];
        progress = [];
      };
      effects = message_to_each O replica.id (Join ballot previous) previous_members;
    } else nothing_done O replica

-- Join(ballot, previous): the replica leaves all lower ballots, and sends its log
unfoldable pub on_join : {S C : Type 0} (O : Type 0) → ReplicaState S C → ℕ → ℕ → ℕ → Outcome S C O
on_join O replica from ballot previous =
    if nat_le replica.joined ballot && nat_le previous replica.held_in
    then record {
      state = if nat_lt replica.joined ballot
          then record replica { joined = ballot; role = Backup } else replica;
      effects = message_to O replica.id (State ballot replica.log) from ∷ [];
    } else nothing_done O replica

-- the log is sent to the members that lack it; if there is none, the master may activate the ballot
abbrev pub install_effects : {S C : Type 0} (O : Type 0) →
    ReplicaState S C → List ℕ → List (Effect C O)
install_effects O replica [] = message_to O replica.id (Activate replica.joined) master ∷ []
install_effects O replica (member ∷ members) =
    message_to_each O replica.id (Install replica.joined replica.log) (member ∷ members)

-- whether a State is awaited: it is of the joined ballot, no log came yet, and this log lacks no
-- applied place
abbrev pub waits_for : {S C : Type 0} → ReplicaState S C → ℕ → ℕ → Bool
waits_for replica ballot held =
    replica.joined == ballot && (is_fetching replica.role && nat_le replica.committed held)

-- a new primary that took a log sends it to the others; it takes none that cannot be read
abbrev pub installs_taken : {S C : Type 0} (O : Type 0) →
    ReplicaState S C → ℕ → Option (ReplicaState S C) → Outcome S C O
installs_taken O replica ballot None = nothing_done O replica
installs_taken O replica ballot (Some took) =
    let new = record took {
      held_in = ballot;
      role = Installing;
      lacking = others replica.id replica.members;
    } in
    record { state = new; effects = install_effects O new new.lacking }

-- State(ballot, log): the first log that comes is taken, unless it lacks an applied place; then all
-- other members lack it, and are sent the log as it was taken
unfoldable pub on_state : {S C O : Type 0} →
    Rules S C O → ReplicaState S C → ℕ → Log C → Outcome S C O
on_state {O = O} rules replica ballot log =
    if waits_for replica ballot (places log)
    then installs_taken O replica ballot (taken rules replica log)
    else nothing_done O replica

-- whether an Install is taken: no higher ballot was joined, the ballot's log was not taken yet, and
-- this one lacks no applied place
abbrev pub lacks : {S C : Type 0} → ReplicaState S C → ℕ → ℕ → Bool
lacks replica ballot held =
    (nat_lt replica.joined ballot || (replica.joined == ballot && nat_lt replica.held_in ballot))
    && nat_le replica.committed held

-- a member that took the log says so; one that could not read it says nothing
abbrev pub answers_installed : {S C : Type 0} (O : Type 0) →
    ReplicaState S C → ℕ → ℕ → ℕ → Option (ReplicaState S C) → Outcome S C O
answers_installed O replica from ballot held None = nothing_done O replica
answers_installed O replica from ballot held (Some took) =
    record {
      state = record took { joined = ballot; held_in = ballot; role = Backup };
      effects = message_to O replica.id (Installed ballot held) from ∷ [];
    }

-- Install(ballot, log): a log is taken once, unless it lacks an applied place; later it is only
-- answered, since more may have been added after it
unfoldable pub on_install : {S C O : Type 0} →
    Rules S C O → ReplicaState S C → ℕ → ℕ → Log C → Outcome S C O
on_install {O = O} rules replica from ballot log =
    if lacks replica ballot (places log)
    then answers_installed O replica from ballot (places log) (taken rules replica log)
    else if replica.joined == ballot && replica.held_in == ballot
    then record {
      state = replica;
      effects = message_to O replica.id (Installed ballot (places log)) from ∷ [];
    }
    else nothing_done O replica

-- a new primary that fetches a log sends its Joins again
abbrev pub on_tick_fetching : {S C : Type 0} (O : Type 0) → ReplicaState S C → Outcome S C O
on_tick_fetching O replica =
    record {
      state = replica;
      effects = message_to_each O replica.id (Join replica.joined replica.previous)
          replica.previous_members;
    }

-- a new primary that installs its log sends it again to the members that lack it
abbrev pub on_tick_installing : {S C : Type 0} (O : Type 0) → ReplicaState S C → Outcome S C O
on_tick_installing O replica =
    record { state = replica; effects = install_effects O replica replica.lacking }
