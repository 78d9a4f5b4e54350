-- Leading.antt: a primary of an activated ballot, before a command is added.
use Rattle.std.proofs.Common.{◌≡◌, ℕ, ◌+◌, ◌≤◌, ◌⊎◌, [], ◌∷◌, ◌++◌, length, Some}
use Rattle.ballot_base.specs.declared.status.Progress.{Progress}
use Rattle.ballot_base.specs.declared.status.Role.TheVariants.{Active}
use Rattle.agreement.specs.whole_logs.Replica.{ReplicaState}
use Rattle.agreement.specs.World.{GroupWorld}
use Rattle.lists.specs.Lists.{In}
use Rattle.agreement.specs.Inside.Ballots.{Given, Line, History, Acknowledged}
use Rattle.agreement.specs.Inside.BallotsStand.{Applied}
use Rattle.agreement.specs.Inside.SoundNodes.{IsActive, IsSoundNode}
use Rattle.agreement.proofs.Serving.ActiveTicks.{active_log}

-- a primary of an activated ballot, before the command is added
pub record Leading {S C O : Type 0} (w : GroupWorld S C O) (h : History C) (n : ℕ) (r : ReplicaState S C) : Type 0 where
  pub role : r.role ≡ Active
  pub ballot : Given
  pub is_given : h.given r.joined ≡ Some ballot
  pub primary : ballot.primary ≡ n + 1
  pub members : r.members ≡ ballot.members
  pub own : r.held_in ≡ r.joined
  pub activated : In r.joined h.activated
  pub line : Line C
  pub lined : h.line r.joined ≡ Some line
  pub log : r.log ≡ line.list
  pub above : length line.base ≤ r.committed
  pub within : r.committed ≤ length r.log
  pub applied : Applied w h r
  pub covered : (m : ℕ) → In m r.members → (m ≡ n + 1) ⊎ ((reached : Progress) × In reached r.progress × (reached.member ≡ m))
  pub followed : (reached : Progress) → In reached r.progress → (In reached.member r.members)
      × (length line.base ≤ reached.held) × (r.committed ≤ reached.held) × Acknowledged w h reached.member r.joined reached.held
  pub others : (reached : Progress) → In reached r.progress → reached.member ≡ n + 1 → ⊥

-- an active primary is one
pub active_leading : {S C O : Type 0} (w : GroupWorld S C O) (h : History C) (n : ℕ) (r : ReplicaState S C) → IsSoundNode w h n r →
    r.role ≡ Active → IsActive w h n r → Leading w h n r
active_leading w h n r t role a =
    record {
      role = role;
      ballot = a.leads.0;
      is_given = a.leads.1;
      primary = a.leads.2;
      members = a.leads.3;
      own = a.own;
      activated = a.activated;
      line = a.line;
      lined = a.lined;
      log = active_log w h n r t a;
      above = a.above;
      within = t.within;
      applied = t.applied;
      covered = a.covered;
      followed = a.followed;
      others = a.others;
    }

-- the list with one command more
abbrev pub longer : {C : Type 0} → Line C → C → Line C
longer l c = record { base = l.base; list = l.list ++ c ∷ [] }
