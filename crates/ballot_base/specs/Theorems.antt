-- A theorem about replicas as they open, proved by `src/theorems.rt`.
use Rattle.std.specs.Prelude.{◌≡◌, ℕ, ◌∷◌}
use Rattle.machine.specs.Machine.{Rules}
use Rattle.lists.specs.Lists.{In}
use Rattle.ballot_base.specs.declared.config.Config.{Config}
use Rattle.ballot_base.specs.Replica.{opening}

-- the configuration does not name the node, neither as its primary nor as a member
abbrev pub IsStranger : ℕ → Config → Type 0
IsStranger id config = In id (config.primary ∷ config.members) → ⊥

-- a node opens alike in any two configurations that do not name it
abbrev pub StrangersOpenAlike : {S C O : Type 0} → Rules S C O → Type 0
StrangersOpenAlike rules =
    (id : ℕ) (config other : Config) → IsStranger id config → IsStranger id other →
    opening rules id config ≡ opening rules id other
