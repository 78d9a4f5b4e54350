-- What is in a list, and in two that are joined.
use Rattle.std.proofs.Common.{◌≡◌, ℕ, zero, suc, ◌⊎◌, inl, inr, List, [], ◌∷◌, ◌++◌, Some, subst}
use Rattle.std.specs.Prelude.{slice_get}
use Rattle.lists.specs.Lists.{In}
use Rattle.lists.specs.Lists.In.{here, there}

-- what is in two lists that are joined
pub in_left : {X : Type 0} {x : X} {xs : List X} (ys : List X) → In x xs → In x (xs ++ ys)
in_left ys here = here
in_left ys (there i) = there (in_left ys i)

pub in_right : {X : Type 0} {x : X} (xs : List X) {ys : List X} → In x ys → In x (xs ++ ys)
in_right [] i = i
in_right (y ∷ xs) i = there (in_right xs i)

pub in_append : {X : Type 0} {x : X} (xs ys : List X) → In x (xs ++ ys) → In x xs ⊎ In x ys
in_append [] ys i = inr i
in_append (y ∷ xs) ys here = inl here
in_append (y ∷ xs) ys (there i) = more (in_append xs ys i)
  where
    more : {X : Type 0} {x y : X} {xs ys : List X} → In x xs ⊎ In x ys → In x (y ∷ xs) ⊎ In x ys
    more (inl i) = inl (there i)
    more (inr i) = inr i

pub in_at : {X : Type 0} (xs : List X) (i : ℕ) (x : X) → slice_get xs i ≡ Some x → In x xs
in_at [] i x e = cc
in_at {X = X} (y ∷ xs) zero x e = let h : y ≡ x = cc in subst (λ (z : X). In z (y ∷ xs)) h here
in_at (y ∷ xs) (suc i) x e = there (in_at xs i x e)
