-- Theorems about prefixes and identifiers, proved by `src/theorems.rt`.
use Rattle.std.specs.Prelude.{◌≡◌, ℕ, ◌⊎◌, false, List, [], ◌∷◌, ◌++◌}
use Rattle.lists.specs.Lists.{IsPrefixOf, has_id, IsDistinct}

-- of two prefixes of one list, one is a prefix of the other
abbrev pub PrefixesMeet : Type 0 → Type 0
PrefixesMeet X =
    (xs ys zs : List X) → IsPrefixOf xs zs → IsPrefixOf ys zs →
    IsPrefixOf xs ys ⊎ IsPrefixOf ys xs

-- a prefix of a prefix is a prefix
abbrev pub PrefixesJoin : Type 0 → Type 0
PrefixesJoin X = (xs ys zs : List X) → IsPrefixOf xs ys → IsPrefixOf ys zs → IsPrefixOf xs zs

-- an identifier that is not among distinct ones may be appended to them
abbrev pub IdentifiersStayApart : Type 0
IdentifiersStayApart =
    (ids : List ℕ) (id : ℕ) → IsDistinct ids → has_id id ids ≡ false → IsDistinct (ids ++ id ∷ [])
