-- The transitions of the protocol between ballots, from NewBallot to Install, and the ticks of a
-- new primary. A message whose condition does not hold changes nothing.
use Rattle.std.specs.Prelude.{ℕ, List, [], ◌∷◌, length, ◌==◌, ◌&&◌, ◌||◌, nat_lt}
use Rattle.std.specs.Prelude.{nat_le, if◌then◌else◌}
use Rattle.agreement.specs.whole_logs.Messages.Body.{Join, State, Install, Installed, Activate}
use Rattle.agreement.specs.whole_logs.Messages.{Effect}
use Rattle.ballot_base.specs.declared.status.Role.TheVariants.{Backup, Fetching, Installing}
use Rattle.agreement.specs.whole_logs.StepOutcome.{Outcome, nothing_done, message_to, message_to_each}
use Rattle.ballot_base.specs.StepOutcome.{master}
use Rattle.agreement.specs.whole_logs.Replica.{ReplicaState}
use Rattle.ballot_base.specs.Replica.{is_fetching, others}

-- NewBallot: a new primary asks the members of the earlier ballot, itself included if it is one,
-- for their logs
unfoldable pub on_new_ballot : {S C : Type 0} (O : Type 0) →
    ReplicaState S C → ℕ → List ℕ → ℕ → List ℕ → Outcome S C O
on_new_ballot O replica ballot members previous previous_members =
    if nat_lt replica.joined ballot
    then record {
      state = record replica {
        joined = ballot;
        role = Fetching;
        members = members;
        previous = previous;
        previous_members = previous_members;
        lacking = [];
        progress = [];
      };
      effects = message_to_each O replica.id (Join ballot previous) previous_members;
    }
    else nothing_done O replica

-- Join(ballot, previous): the replica leaves all lower ballots, and sends its log
unfoldable pub on_join : {S C : Type 0} (O : Type 0) → ReplicaState S C → ℕ → ℕ → ℕ → Outcome S C O
on_join O replica from ballot previous =
    if nat_le replica.joined ballot && nat_le previous replica.held_in
    then record {
      state = if nat_lt replica.joined ballot
          then record replica { joined = ballot; role = Backup } else replica;
      effects = message_to O replica.id (State ballot replica.log) from ∷ [];
    }
    else nothing_done O replica

-- the log is sent to the members that lack it; if there is none, the master may activate the ballot
abbrev pub install_effects : {S C : Type 0} (O : Type 0) →
    ReplicaState S C → List ℕ → List (Effect C O)
install_effects O replica [] = message_to O replica.id (Activate replica.joined) master ∷ []
install_effects O replica (member ∷ members) =
    message_to_each O replica.id (Install replica.joined replica.log) (member ∷ members)

-- State(ballot, log): the first log that comes is taken, unless it lacks an applied place; all
-- other members lack it then
unfoldable pub on_state : {S C : Type 0} (O : Type 0) →
    ReplicaState S C → ℕ → List C → Outcome S C O
on_state O replica ballot log =
    let taken = record replica {
      held_in = ballot;
      log = log;
      role = Installing;
      lacking = others replica.id replica.members;
    } in
    if replica.joined == ballot
    && (is_fetching replica.role && nat_le replica.committed (length log))
    then record { state = taken; effects = install_effects O taken taken.lacking }
    else nothing_done O replica

-- Install(ballot, log): a log is taken once, unless it lacks an applied place; later it is only
-- answered, since more may have been added after it
unfoldable pub on_install : {S C : Type 0} (O : Type 0) →
    ReplicaState S C → ℕ → ℕ → List C → Outcome S C O
on_install O replica from ballot log =
    let installed = message_to O replica.id (Installed ballot (length log)) from ∷ [] in
    if (nat_lt replica.joined ballot || (replica.joined == ballot && nat_lt replica.held_in ballot))
    && nat_le replica.committed (length log)
    then record {
      state = record replica { joined = ballot; held_in = ballot; log = log; role = Backup };
      effects = installed;
    }
    else if replica.joined == ballot && replica.held_in == ballot
    then record { state = replica; effects = installed }
    else nothing_done O replica

-- a new primary that fetches a log sends its Joins again
abbrev pub on_tick_fetching : {S C : Type 0} (O : Type 0) → ReplicaState S C → Outcome S C O
on_tick_fetching O replica =
    record {
      state = replica;
      effects = message_to_each O replica.id (Join replica.joined replica.previous)
          replica.previous_members;
    }

-- a new primary that installs its log sends it again to the members that lack it
abbrev pub on_tick_installing : {S C : Type 0} (O : Type 0) → ReplicaState S C → Outcome S C O
on_tick_installing O replica =
    record { state = replica; effects = install_effects O replica replica.lacking }
