-- What a replica keeps, and how it opens.
use Rattle.std.specs.Prelude.{ℕ, Bool, true, false, List, [], filter, map, not, ◌&&◌, ◌==◌, if◌then◌else◌}
use Rattle.machine.specs.Machine.{Rules}
use Rattle.ballot_base.specs.Logs.{Log, empty_log, places}
use Rattle.ballot_base.specs.declared.config.Config.{Config}
use Rattle.ballot_base.specs.declared.status.Progress.{Progress}
use Rattle.ballot_base.specs.declared.status.Role.{Role}
use Rattle.ballot_base.specs.declared.status.Role.TheVariants.{Backup, Fetching, Installing, Active}
use Rattle.ballot_base.specs.declared.status.Status.{Status}
use Rattle.std.specs.List.{list_any}

-- what one node keeps: its log, and a machine that has applied some places. In a group the machine
-- is the replay of the first `committed` places; a replica outside a group may be sent any log.
pub record ReplicaState (S C : Type 0) : Type 0 where
  pub id : ℕ
  -- the ballot that it joined, and the one in which its log was last installed; 0 before the first
  pub joined : ℕ
  pub held_in : ℕ
  pub log : Log C
  -- how many places are applied, and the machine then; once stopped it is shown in its opening
  -- state
  pub committed : ℕ
  pub machine : S
  pub role : Role
  -- for the ballot that it leads: members, the earlier ballot and its members, which other members
  -- lack the log that is being installed, and what each is known to hold
  pub members : List ℕ
  pub previous : ℕ
  pub previous_members : List ℕ
  pub lacking : List ℕ
  pub progress : List Progress
  pub stopped : Bool

-- a replica with the number of its calls in which something was lost (saturates at 2^64 - 1)
pub record CountedReplica (S C : Type 0) : Type 0 where
  pub state : ReplicaState S C
  pub losses : ℕ

-- whether a role is that of the active primary
abbrev pub is_active : Role → Bool
is_active Backup = false
is_active Fetching = false
is_active Installing = false
is_active Active = true

-- whether a replica in this role serves clients: it is the active primary, and has not stopped
abbrev pub serves_in_role : Role → Bool → Bool
serves_in_role role stopped = is_active role && not stopped

-- whether a role is that of a backup
abbrev pub is_backup : Role → Bool
is_backup Backup = true
is_backup Fetching = false
is_backup Installing = false
is_backup Active = false

-- whether a role is that of a new primary that asks for logs
abbrev pub is_fetching : Role → Bool
is_fetching Backup = false
is_fetching Fetching = true
is_fetching Installing = false
is_fetching Active = false

-- whether a role is that of a new primary that sends its log
abbrev pub is_installing : Role → Bool
is_installing Backup = false
is_installing Fetching = false
is_installing Installing = true
is_installing Active = false

-- the members other than one node, in order
abbrev pub others : ℕ → List ℕ → List ℕ
others id members = filter (λ member. not (member == id)) members

-- a progress for each of some members
abbrev pub progress_at : ℕ → List ℕ → List Progress
progress_at held members = map (λ member. record { member = member; held = held }) members

-- the members of ballot 1 have joined it with an empty log; other nodes are backups of no ballot
abbrev pub opening_member : {S C O : Type 0} → Rules S C O → ℕ → Config → ReplicaState S C
opening_member {C = C} rules id config =
    let ballot : ℕ = if list_any (λ member. member == id) config.members then 1 else 0 in
    record {
      id = id;
      joined = ballot;
      held_in = ballot;
      log = empty_log C;
      committed = 0;
      machine = rules.opening;
      role = Backup;
      members = [];
      previous = 0;
      previous_members = [];
      lacking = [];
      progress = [];
      stopped = false;
    }

-- how a node opens: the primary of ballot 1 is active at once, with progress 0 for each other
-- member
abbrev pub opening : {S C O : Type 0} → Rules S C O → ℕ → Config → ReplicaState S C
opening rules id config =
    if id == config.primary
    then record (opening_member rules id config) {
      role = Active;
      members = config.members;
      progress = progress_at 0 (others id config.members);
    }
    else opening_member rules id config

-- what a replica shows of itself
abbrev pub status_of : {S C : Type 0} → ReplicaState S C → Status
status_of replica =
    record {
      ballot = replica.joined;
      role = replica.role;
      held = places replica.log;
      committed = replica.committed;
      stopped = replica.stopped;
    }
