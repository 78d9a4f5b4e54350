-- What the master's fields say about the history of ballots.
use Rattle.std.specs.Prelude.{ℕ, ◌+◌, ◌<◌, ◌≤◌, ◌≡◌, List, ◌∷◌, Some}
use Rattle.ballot_base.specs.declared.config.Config.{Config}
use Rattle.agreement.specs.Inside.Ballots.{Given, History}
use Rattle.lists.specs.Lists.{In}
use Rattle.agreement.specs.MasterState.{MasterState}
use Rattle.machine.specs.Ballots.{max_ballot}

-- the master's fields are those of the history
pub record IsMaster {C : Type 0} (master : MasterState) (history : History C) : Type 0 where
  pub older : List ℕ
  pub newest : history.activated ≡ master.active ∷ older
  pub active_members : (given : Given) × (history.given master.active ≡ Some given)
      × (given.members ≡ master.members)
  pub numbered : (ballot : ℕ) (given : Given) → history.given ballot ≡ Some given →
      (0 < ballot) × (ballot ≤ master.given)
  -- the ballot that waits is the last that was given, after the active one
  pub waits : (ballot : ℕ) (config : Config) → master.waiting ≡ Some (ballot, config) →
      (ballot ≡ master.given) × (master.active < ballot)
      × ((given : Given) × (history.given ballot ≡ Some given) × (given.previous ≡ master.active)
      × (given.members ≡ config.members) × (given.primary ≡ config.primary))

-- numbers that nodes may have
abbrev pub AreNodes : List ℕ → Type 0
AreNodes members = (member : ℕ) → In member members → (node : ℕ) × (member ≡ node + 1)

-- the members of the ballot that waits have numbers of nodes, whether or not there are this many,
-- and at most the last ballot was given
pub record IsServing (master : MasterState) : Type 0 where
  pub waiting : (ballot : ℕ) (config : Config) → master.waiting ≡ Some (ballot, config) →
      AreNodes config.members
  pub given : master.given < max_ballot + 1
