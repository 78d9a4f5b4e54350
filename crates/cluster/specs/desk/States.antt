-- What the master of a cluster keeps, and what its answers make of it.
use Rattle.std.specs.Prelude.{ℕ, ◌+◌, ◌-◌, ◌==◌, Bool, true, false, ◌&&◌, nat_lt, nat_le, if◌then◌else◌, List, [], ◌∷◌, length, Option, Some, None}
use Rattle.std.specs.List.{list_all}
use Rattle.machine.specs.Ballots.{max_ballot}
use Rattle.ballot_base.specs.declared.config.Config.{Config}
use Rattle.ballot_base.specs.LawfulConfig.{max_members, max_number}
use Rattle.agreement.specs.MasterState.{AssignRefusal, MasterState, assigning, activating, opening_master, refusal}
use Rattle.agreement.specs.MasterState.AssignRefusal.{bad_members, ballots_spent}
use Rattle.cluster.specs.declared.desk.error.DeskError.{DeskError}
use Rattle.cluster.specs.declared.desk.error.DeskError.TheVariants as errors

-- the name of the cluster, the number that the next start of a node gets, and the ballots
pub record DeskState : Type 0 where
  pub cluster : List ℕ
  pub next : ℕ
  pub master : MasterState

-- what is next once the last number was given
abbrev pub no_number : ℕ
no_number = max_number + 1

-- A cluster at its beginning: the first start of a node gets number 1, which is member and primary
-- of ballot 1.
abbrev pub opening_desk : List ℕ → DeskState
opening_desk cluster = record {
  cluster = cluster;
  next = 1;
  master = opening_master max_number (record { members = 1 ∷ []; primary = 1 });
}

-- after a start of a node
abbrev pub started : DeskState → DeskState
started state = record state { next = state.next + 1 }

-- after a ballot was assigned
abbrev pub assigned_to : DeskState → Config → DeskState
assigned_to state config = record state { master = assigning state.master config }

-- after a ballot was activated
abbrev pub activated_by : DeskState → ℕ → DeskState
activated_by state ballot =
    record state { master = activating state.master ballot state.master.waiting }

-- the ballot waits to be activated
abbrev pub waits_for : Option (ℕ × Config) → ℕ → Bool
waits_for (Some (waiting, config)) ballot = ballot == waiting
waits_for None ballot = false

-- numbers that were given to starts of nodes
abbrev pub are_given : ℕ → List ℕ → Bool
are_given next members = list_all (λ member. nat_lt member next) members

-- the last ballot is taken back, and this one waits again
abbrev pub taken_back : DeskState → Option (ℕ × Config) → DeskState
taken_back state waiting = record state {
  master = record state.master { waiting = waiting; given = state.master.given - 1 };
}

-- why no ballot is assigned to a configuration: as the master refuses it, or a member is a number
-- that was never given
abbrev pub refused_by : Bool → Option AssignRefusal → Option DeskError
refused_by given (Some bad_members) = Some errors.BadMembers
refused_by given (Some ballots_spent) = Some errors.BallotsSpent
refused_by given None = if given then None else Some errors.NeverGiven

abbrev pub assign_refusal : DeskState → Config → Option DeskError
assign_refusal state config =
    refused_by (are_given state.next config.members) (refusal state.master config)

-- ---- what holds of every state that is kept

-- the members of the ballot that waits are at most seven
abbrev pub waits_fit : Option (ℕ × Config) → Bool
waits_fit None = true
waits_fit (Some (ballot, config)) = nat_le (length config.members) max_members

-- the ballot that waits was given after the active one
abbrev pub may_wait : ℕ → ℕ → Option (ℕ × Config) → Bool
may_wait active given None = true
may_wait active given (Some (ballot, config)) = nat_lt active ballot && nat_le ballot given

-- numbers and ballots are in their ranges
abbrev pub is_sound : ℕ → MasterState → Bool
is_sound next master =
    nat_le 1 next
    && (nat_le next no_number
    && (nat_le 1 master.active
    && (nat_le master.active master.given
    && (nat_le master.given max_ballot
    && (nat_le (length master.members) max_members
    && (waits_fit master.waiting
    && may_wait master.active master.given master.waiting))))))

-- with this active ballot of these members
abbrev pub with_active : DeskState → ℕ → List ℕ → DeskState
with_active state ballot members =
    record state { master = record state.master { active = ballot; members = members } }

-- with this ballot waiting
abbrev pub with_waiting : DeskState → Option (ℕ × Config) → DeskState
with_waiting state waiting = record state { master = record state.master { waiting = waiting } }

-- a state would be sound with this ballot waiting
abbrev pub is_sound_with : DeskState → ℕ → Config → Bool
is_sound_with state ballot config =
    is_sound state.next (with_waiting state (Some (ballot, config))).master
