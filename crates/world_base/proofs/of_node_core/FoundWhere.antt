-- FoundWhere.antt: some item of a list passes a test exactly if one is found.
use Rattle.std.proofs.Common.{◌≡◌, Bool, true, false, ◌||◌, if◌then◌else◌, List, [], ◌∷◌, Option, Some, refl}
use Rattle.std.specs.List.{find, list_any}
use Rattle.std.specs.Option.{is_some}

pub any_is_found : {X : Type 0} (test : X → Bool) (xs : List X) → list_any test xs ≡ is_some (find test xs)
any_is_found test [] = refl
any_is_found {X = X} test (x ∷ xs) = by (test x) (any_is_found test xs)
  where
    by : (b : Bool) → list_any test xs ≡ is_some (find test xs) → (b || list_any test xs) ≡ is_some (let o : Option X = if b then Some x else find test xs in o)
    by true rest = refl
    by false rest = rest
