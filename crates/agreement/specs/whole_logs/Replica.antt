-- What a replica keeps, and how it opens.
use Rattle.std.specs.Prelude.{ℕ, Bool, false, List, [], ◌==◌, if◌then◌else◌}
use Rattle.machine.specs.Machine.{Rules}
use Rattle.ballot_base.specs.declared.config.Config.{Config}
use Rattle.ballot_base.specs.declared.status.Progress.{Progress}
use Rattle.ballot_base.specs.declared.status.Role.{Role}
use Rattle.ballot_base.specs.declared.status.Role.TheVariants.{Backup, Active}
use Rattle.std.specs.List.{list_any}
pub use Rattle.ballot_base.specs.Replica.{is_active, is_backup, is_fetching, is_installing}
pub use Rattle.ballot_base.specs.Replica.{others, progress_at}

-- what one node keeps: its log, and a machine that has applied some places. In a group the machine
-- is the replay of the first `committed` places.
pub record ReplicaState (S C : Type 0) : Type 0 where
  pub id : ℕ
  -- the ballot that it joined, and the one in which its log was last installed; 0 before the first
  pub joined : ℕ
  pub held_in : ℕ
  -- the commands from place 0 on
  pub log : List C
  -- how many places are applied, and the machine then; once stopped it is shown as it opens
  pub committed : ℕ
  pub machine : S
  pub role : Role
  -- of the ballot that it leads: members, the earlier ballot and its members, which other members
  -- lack the log that is being installed, and what each is known to hold
  pub members : List ℕ
  pub previous : ℕ
  pub previous_members : List ℕ
  pub lacking : List ℕ
  pub progress : List Progress
  pub stopped : Bool

-- the members of ballot 1 have joined it with an empty log; other nodes are backups of no ballot
abbrev pub opening_member : {S C O : Type 0} → Rules S C O → ℕ → Config → ReplicaState S C
opening_member rules id config =
    let ballot : ℕ = if list_any (λ member. member == id) config.members then 1 else 0 in
    record {
      id = id;
      joined = ballot;
      held_in = ballot;
      log = [];
      committed = 0;
      machine = rules.opening;
      role = Backup;
      members = [];
      previous = 0;
      previous_members = [];
      lacking = [];
      progress = [];
      stopped = false;
    }

-- how a node opens: the primary of ballot 1 is active at once, with progress 0 for each other
-- member
abbrev pub opening : {S C O : Type 0} → Rules S C O → ℕ → Config → ReplicaState S C
opening rules id config =
    if id == config.primary
    then record (opening_member rules id config) {
      role = Active;
      members = config.members;
      progress = progress_at 0 (others id config.members);
    }
    else opening_member rules id config
