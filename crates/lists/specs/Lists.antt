-- Definitions on lists that several crates share.
use Rattle.std.specs.Prelude.{◌≡◌, ℕ, Bool, false, ◌==◌, List, [], ◌∷◌, ◌++◌}
use Rattle.std.specs.List.{list_any}

-- the element occurs in the list
pub data In {X : Type 0} (member : X) : List X → Type 0 where
  -- it is the first element
  here : {xs : List X} → In member (member ∷ xs)
  -- it is in the rest of the list
  there : {other : X} {xs : List X} → In member xs → In member (other ∷ xs)

-- one list is a prefix of another: that one is it with more at its end
pub record IsPrefixOf {X : Type 0} (xs ys : List X) : Type 0 where
  pub rest : List X
  pub is : ys ≡ xs ++ rest

-- the property holds for each element
abbrev pub Each : {X : Type 0} → (X → Type 0) → List X → Type 0
Each P (element ∷ xs) = P element × Each P xs
Each P [] = Unit {0}

-- whether the identifier is in the list
abbrev pub has_id : ℕ → List ℕ → Bool
has_id id = list_any (λ other. id == other)

-- no identifier occurs twice
abbrev pub IsDistinct : List ℕ → Type 0
IsDistinct (id ∷ ids) = (has_id id ids ≡ false) × IsDistinct ids
IsDistinct [] = Unit {0}
