-- Definitions for proofs about nodes during a recovery; no theorem cites it.
use Rattle.std.specs.Prelude.{ℕ, ◌+◌, ◌≡◌, ◌≤◌, ◌<◌, false, List, [], ◌++◌}
use Rattle.ballot_base.specs.declared.status.Role.TheVariants.{Fetching, Installing}
use Rattle.agreement.specs.whole_logs.Replica.{ReplicaState}
use Rattle.ballot_base.specs.Replica.{progress_at}

-- a node that runs and can still take a ballot's log of this length
pub record CanTake {S C : Type 0} (ballot length_of_log : ℕ) (number : ℕ)
    (replica : ReplicaState S C) : Type 0 where
  pub runs : replica.stopped ≡ false
  pub id : replica.id ≡ number
  pub joined : replica.joined ≤ ballot
  pub held : replica.held_in < ballot
  pub applied : replica.committed ≤ length_of_log

-- the new primary while it fetches a log
abbrev pub fetching : {S C : Type 0} →
    ℕ → List ℕ → ℕ → List ℕ → ReplicaState S C → ReplicaState S C
fetching ballot members previous previous_members replica =
    record replica {
      joined = ballot;
      role = Fetching;
      members = members;
      previous = previous;
      previous_members = previous_members;
      lacking = [];
      progress = [];
    }

-- the new primary while it installs a log
abbrev pub installing : {S C : Type 0} →
    ℕ → List C → ReplicaState S C → List ℕ → ReplicaState S C
installing ballot log replica lacking =
    record replica { held_in = ballot; log = log; role = Installing; lacking = lacking }

-- the primary, if these others are known to hold one place more than those
abbrev pub known : {S C : Type 0} → ℕ → ReplicaState S C → List ℕ → List ℕ → ReplicaState S C
known held replica came left =
    record replica { progress = progress_at (held + 1) came ++ progress_at held left }
