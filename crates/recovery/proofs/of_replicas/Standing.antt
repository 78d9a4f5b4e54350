-- Standing.antt: messages that are one after another among those that were sent, and nodes at their
-- places.
use Rattle.std.proofs.Common.{◌≡◌, ℕ, zero, suc, ◌+◌, List, [], ◌∷◌, ◌++◌, length, Some, refl, subst, append_assoc, length-append}
use Rattle.std.specs.Prelude.{slice_get}

-- these are at the places from this one on
abbrev pub StandFrom : {X : Type 0} → List X → ℕ → List X → Type 0
StandFrom all k (x ∷ xs) = (slice_get all k ≡ Some x) × StandFrom all (k + 1) xs
StandFrom all k [] = Unit {0}

-- they are still there if more comes after
pub get_more : {X : Type 0} (all more : List X) (k : ℕ) (x : X) → slice_get all k ≡ Some x → slice_get (all ++ more) k ≡ Some x
get_more [] more k x e = cc
get_more (y ∷ all) more zero x e = e
get_more (y ∷ all) more (suc k) x e = get_more all more k x e

pub stand_more : {X : Type 0} (all more : List X) (k : ℕ) (xs : List X) → StandFrom all k xs → StandFrom (all ++ more) k xs
stand_more all more k [] s = tt
stand_more all more k (x ∷ xs) (e, s) = (get_more all more k x e, stand_more all more (k + 1) xs s)

get_after : {X : Type 0} (all : List X) (x : X) (xs : List X) → slice_get (all ++ x ∷ xs) (length all) ≡ Some x
get_after [] x xs = refl
get_after (y ∷ all) x xs = get_after all x xs

-- what is added is at the places from there on
pub stand_new : {X : Type 0} (all xs : List X) → StandFrom (all ++ xs) (length all) xs
stand_new all [] = tt
stand_new {X = X} all (x ∷ xs) = (
  get_after all x xs,
  subst (λ (l : List X). StandFrom l (length all + 1) xs) (append_assoc all (x ∷ []) xs)
      (subst (λ k. StandFrom ((all ++ x ∷ []) ++ xs) k xs) (length-append all (x ∷ [])) (stand_new (all ++ x ∷ []) xs)),
)

-- at the same place in another spelling
pub stand_at : {X : Type 0} (all : List X) (k j : ℕ) (xs : List X) → k ≡ j → StandFrom all k xs → StandFrom all j xs
stand_at all k j xs e s = subst (λ i. StandFrom all i xs) e s

-- what a list is written of
pub stand_in : {X : Type 0} (all other : List X) (k : ℕ) (xs : List X) → all ≡ other → StandFrom all k xs → StandFrom other k xs
stand_in all other k xs e s = subst (λ l. StandFrom l k xs) e s
