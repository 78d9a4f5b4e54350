-- What may stand where a desk keeps its state, and what its calls make of it.
use Rattle.std.specs.Prelude.{◌≡◌, ℕ, Bool, false, List, [], ◌∷◌, Some, Ok}
use Rattle.lists.specs.Lists.{In}
use Rattle.ballot_base.specs.declared.config.Config.{Config}
use Rattle.cluster.specs.declared.desk.error.OpenError.{OpenError}
use Rattle.cluster.specs.declared.desk.error.OpenError.TheVariants as errors
use Rattle.cluster.specs.desk.States.{DeskState, with_active, with_waiting}
use Rattle.cluster.specs.desk.Form.{desk_of, form}

-- a desk: where it keeps its state, and the state
pub record DeskView (K : Type 0) : Type 0 where
  pub keeper : K
  pub state : DeskState

-- all of the first lists of bytes are among the second ones
abbrev pub AreAmong : List (List ℕ) → List (List ℕ) → Type 0
AreAmong some all = (bytes : List ℕ) → In bytes some → In bytes all

-- the desk has this state, and nothing but its bytes stands where it was kept
abbrev pub HasKept : {K : Type 0} → (K → List (List ℕ)) → DeskView K → DeskState → Type 0
HasKept stands desk state = (desk.state ≡ state) × (stands desk.keeper ≡ form state ∷ [])

-- the state was not kept: the keeper answered so, the desk is as it was, and the bytes of either
-- state may stand
pub record Failed {K : Type 0} (keeps : K → List ℕ → Bool → K → Type 0)
    (stands : K → List (List ℕ)) (old new : DeskView K) (state : DeskState)
    : Type 0 where
  pub asked : keeps old.keeper (form state) false new.keeper
  pub same : new.state ≡ old.state
  pub either : AreAmong (stands new.keeper) (form state ∷ stands old.keeper)

-- the same of a ballot that was to become the active one, and waits again
pub record FailedWith {K : Type 0} (keeps : K → List ℕ → Bool → K → Type 0)
    (stands : K → List (List ℕ)) (old new : DeskView K) (ballot : ℕ) (config : Config)
    : Type 0 where
  pub asked : keeps old.keeper (form (with_active old.state ballot config.members)) false new.keeper
  pub waits : new.state ≡ with_waiting old.state (Some (ballot, config))
  pub either : AreAmong (stands new.keeper)
      (form (with_active old.state ballot config.members) ∷ stands old.keeper)

-- a keeper was asked to keep a state, and did not
abbrev pub IsNotKept : {K : Type 0} → (K → List ℕ → Bool → K → Type 0) → K → DeskState → Type 0
IsNotKept {K} keeps keeper state = (after : K) × keeps keeper (form state) false after

-- a keeper was asked to keep the state that was read, and did not
abbrev pub WasLost : {K : Type 0} → (K → List ℕ → Bool → K → Type 0) → K → List ℕ → Type 0
WasLost keeps keeper bytes =
    (state : DeskState) × (desk_of bytes ≡ Ok state) × IsNotKept keeps keeper state

-- the error is no fault of bytes
abbrev pub IsNoFault : OpenError → Type 0
IsNoFault (errors.Form fault) = ⊥
IsNoFault _ = Unit {0}
