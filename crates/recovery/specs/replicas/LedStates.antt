-- The states of nodes in relation to the ballot that is led to its start.
use Rattle.std.specs.Prelude.{ℕ, ◌≡◌, false, List, length}
use Rattle.ballot_base.specs.declared.status.Role.TheVariants.{Backup, Active}
use Rattle.agreement.specs.whole_logs.Replica.{ReplicaState}
use Rattle.ballot_base.specs.Replica.{progress_at}

-- the whole list of commands of a node's log
abbrev pub whole_log_of_node : {S C : Type 0} → ReplicaState S C → List C
whole_log_of_node replica = replica.log

-- the node of a number runs
pub record IsRunning {S C : Type 0} (number : ℕ) (replica : ReplicaState S C) : Type 0 where
  pub runs : replica.stopped ≡ false

-- the node runs, and its whole log is this one
pub record RunsWith {S C : Type 0} (log : List C) (number : ℕ)
    (replica : ReplicaState S C) : Type 0 where
  pub runs : replica.stopped ≡ false
  pub log_is : whole_log_of_node replica ≡ log

-- the node runs as a backup of a ballot, and holds this log there
pub record Follows {S C : Type 0} (ballot : ℕ) (log : List C) (number : ℕ)
    (replica : ReplicaState S C) : Type 0 where
  pub runs : replica.stopped ≡ false
  pub id : replica.id ≡ number
  pub joined : replica.joined ≡ ballot
  pub held : replica.held_in ≡ ballot
  pub role : replica.role ≡ Backup
  pub log_is : whole_log_of_node replica ≡ log

-- the node runs as the active primary of a ballot
pub record LeadsIn {S C : Type 0} (ballot : ℕ) (replica : ReplicaState S C) : Type 0 where
  pub runs : replica.stopped ≡ false
  pub joined : replica.joined ≡ ballot
  pub role : replica.role ≡ Active

-- the node leads the ballot, has applied all of this log, and knows that these others hold all of
-- it
pub record LeadsWhole {S C : Type 0} (ballot : ℕ) (log : List C) (others_of : List ℕ) (number : ℕ)
    (replica : ReplicaState S C) : Type 0 where
  pub leads : LeadsIn ballot replica
  pub id : replica.id ≡ number
  pub held : replica.held_in ≡ ballot
  pub log_is : whole_log_of_node replica ≡ log
  pub applied : replica.committed ≡ length log
  pub progress_is : replica.progress ≡ progress_at (length log) others_of
