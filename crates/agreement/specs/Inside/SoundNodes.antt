-- The invariant of every node of a group, by its role.
use Rattle.std.specs.Prelude.{ℕ, ◌+◌, ◌<◌, ◌≤◌, ◌≡◌, ◌⊎◌, [], length, Some, None}
use Rattle.ballot_base.specs.declared.status.Progress.{Progress}
use Rattle.ballot_base.specs.declared.status.Role.TheVariants.{Fetching, Installing, Active}
use Rattle.agreement.specs.whole_logs.Replica.{ReplicaState}
use Rattle.agreement.specs.World.{GroupWorld}
use Rattle.lists.specs.Lists.{In}
use Rattle.agreement.specs.Inside.Ballots.{Given, Line, History, Acknowledged}
use Rattle.agreement.specs.Inside.BallotsStand.{IsPlaced, Applied}
use Rattle.agreement.specs.Inside.MessageMeaning.{IsOf}

-- the invariant of a new or active primary, by its role
abbrev pub Leads : {S C O : Type 0} → GroupWorld S C O → History C → ℕ → ReplicaState S C → Type 0
Leads {S} {C} world history node replica =
    (given : Given) × (history.given replica.joined ≡ Some given)
    × (given.primary ≡ node + 1) × (replica.members ≡ given.members)

-- a new primary that waits for a log: its ballot has no list yet
abbrev pub IsFetching : {S C O : Type 0} → GroupWorld S C O → History C → ℕ → ReplicaState S C →
    Type 0
IsFetching world history node replica =
    Leads world history node replica × (replica.held_in < replica.joined)
    × (history.line replica.joined ≡ None)
    × ((given : Given) × IsOf history replica.joined given × (replica.previous ≡ given.previous)
    × ((old : Given) × (history.given given.previous ≡ Some old)
    × (replica.previous_members ≡ old.members)))

-- a new primary that sends its log: this is its ballot's list, and those that do not lack it hold
-- it
pub record IsInstalling {S C O : Type 0} (world : GroupWorld S C O) (history : History C)
    (node : ℕ) (replica : ReplicaState S C) :
    Type 0 where
  pub leads : Leads world history node replica
  pub later : (given : Given) × IsOf history replica.joined given
  pub own : replica.held_in ≡ replica.joined
  pub line : Line C
  pub lined : history.line replica.joined ≡ Some line
  pub base : replica.log ≡ line.base
  pub noted : (member : ℕ) → In member replica.members →
      (In member replica.lacking
      ⊎ Acknowledged world history member replica.joined (length line.base))
  pub lacks : (member : ℕ) → In member replica.lacking →
      In member replica.members × (member ≡ node + 1 → ⊥)

-- an active primary: its ballot is activated, and each other member has acknowledged what its
-- progress says
pub record IsActive {S C O : Type 0} (world : GroupWorld S C O) (history : History C) (node : ℕ)
    (replica : ReplicaState S C) :
    Type 0 where
  pub leads : Leads world history node replica
  pub own : replica.held_in ≡ replica.joined
  pub activated : In replica.joined history.activated
  pub line : Line C
  pub lined : history.line replica.joined ≡ Some line
  pub begun : (line.base ≡ []) ⊎ (length line.base < length replica.log)
  pub above : length line.base ≤ replica.committed
  pub covered : (member : ℕ) → In member replica.members →
      (member ≡ node + 1)
      ⊎ ((reached : Progress) × In reached replica.progress × (reached.member ≡ member))
  pub followed : (reached : Progress) → In reached replica.progress →
      (In reached.member replica.members)
      × (length line.base ≤ reached.held) × (replica.committed ≤ reached.held)
      × Acknowledged world history reached.member replica.joined reached.held
  pub others : (reached : Progress) → In reached replica.progress → reached.member ≡ node + 1 → ⊥

-- a node satisfies the invariant
pub record IsSoundNode {S C O : Type 0} (world : GroupWorld S C O) (history : History C) (node : ℕ)
    (replica : ReplicaState S C) :
    Type 0 where
  pub id : replica.id ≡ node + 1
  pub placed : IsPlaced world history node replica
  pub empty : replica.held_in ≡ 0 → replica.log ≡ []
  pub member : (given : Given) → history.given replica.held_in ≡ Some given →
      In (node + 1) given.members
  pub primary_log : (given : Given) (line : Line C) →
      history.given replica.held_in ≡ Some given → given.primary ≡ node + 1 →
      history.line replica.held_in ≡ Some line → replica.log ≡ line.list
  pub joined_by : (replica.joined ≡ 0)
      ⊎ ((given : Given) × (history.given replica.joined ≡ Some given)
      × (In (node + 1) given.members ⊎ ((old : Given) × (history.given given.previous ≡ Some old)
      × In (node + 1) old.members)))
  pub within : replica.committed ≤ length replica.log
  pub applied : Applied world history replica
  pub fetching : replica.role ≡ Fetching → IsFetching world history node replica
  pub installing : replica.role ≡ Installing → IsInstalling world history node replica
  pub active : replica.role ≡ Active → IsActive world history node replica
