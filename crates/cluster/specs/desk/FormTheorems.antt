-- Theorems about the bytes of a state, proved by `src/theorems.rt`.
use Rattle.std.specs.Prelude.{◌≡◌, ℕ, true, List, length, Ok}
use Rattle.ballot_base.specs.LawfulConfig.{max_number}
use Rattle.cluster.specs.desk.States.{DeskState, is_sound}
use Rattle.cluster.specs.desk.Form.{desk_of, form}

-- a state as a desk keeps it
pub record IsDesk (state : DeskState) : Type 0 where
  pub named : length state.cluster ≡ 16
  pub greatest : state.master.greatest ≡ max_number
  pub sound : is_sound state.next state.master ≡ true

-- the bytes of a state are read as this state
abbrev pub FormIsRead : Type 0
FormIsRead = (state : DeskState) → IsDesk state → desk_of (form state) ≡ Ok state

-- and only they are
abbrev pub FormIsWritten : Type 0
FormIsWritten = (bytes : List ℕ) (state : DeskState)
    → desk_of bytes ≡ Ok state → bytes ≡ form state
