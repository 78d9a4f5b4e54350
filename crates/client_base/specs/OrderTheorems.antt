-- Kept publications are sent in the order in which they were published (MQTT 4.6).
use Rattle.std.specs.Prelude.{◌≡◌, ℕ, ◌<◌, suc, List, [], ◌∷◌, ◌++◌, Option, Some, None}
use Rattle.client_base.specs.Keeper.{Own, Written, Side, all_own, number_in}
use Rattle.client_base.specs.Written.{written_again, written_first}
use Rattle.client_base.specs.Steps.{Call}
use Rattle.client_base.specs.Called.{keeper_goes}
use Rattle.client_base.specs.History.{IsSentFirst}

-- publications are numbered by their indices, from this number on
abbrev pub AreNumbered : ℕ → List Own → Type 0
AreNumbered next (first ∷ own) = (number_in first ≡ next) × AreNumbered (suc next) own
AreNumbered next [] = Unit {0}

-- the numbers of the publications of these packets
abbrev pub written_numbers : List Written → List ℕ
written_numbers (written ∷ more) = with_number written.number (written_numbers more)
  where
    with_number : Option ℕ → List ℕ → List ℕ
    with_number (Some number) numbers = number ∷ numbers
    with_number None numbers = numbers
written_numbers [] = []

-- the numbers ascend, from this one on
abbrev pub RisesFrom : ℕ → List ℕ → Type 0
RisesFrom least (number ∷ numbers) = (least < suc number) × RisesFrom (suc number) numbers
RisesFrom least [] = Unit {0}

-- every call and packet preserves the numbering, also across sessions
abbrev pub NumbersStay : Type 0
NumbersStay =
    (call : Call) (fresh : ℕ) (side : Side ℕ) →
    AreNumbered 0 (all_own side.keeper)
    → AreNumbered 0 (all_own (keeper_goes fresh call side).keeper)

-- the publications that the client sends at a CONNACK 0, again or for the first time, are sent in
-- the order of the calls
abbrev pub GoesOutInOrder : Type 0
GoesOutInOrder =
    (next : ℕ) (own : List Own) → AreNumbered next own → IsSentFirst own
    → RisesFrom next (written_numbers (written_again own ++ written_first own))
