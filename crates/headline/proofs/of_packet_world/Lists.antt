-- Lists: one that is written at a place, and what holds for each place.
use Rattle.std.proofs.Common.{◌≡◌, ◌≤◌, ◌==◌, ℕ, zero, suc, Bool, true, false, if◌then◌else◌, List, [], ◌∷◌, ◌++◌, length, set, take, filter, Some, refl, ap, sym, ◌∙◌, subst, arith, inl, inr, ◌⊎◌}
use Rattle.std.specs.Prelude.{slice_get}
use Rattle.std.proofs.lemmas.Bool.{cases_Bool, both_ways}
use Rattle.lists.specs.Lists.{Each}
use Rattle.lists.proofs.Places.{get_set, get_set_other}

pub each_set : {X : Type 0} (P : X → Type 0) (xs : List X) (n : ℕ) (y : X) → Each P xs → P y → Each P (set xs n y)
each_set P [] n y all here = tt
each_set P (x ∷ xs) zero y all here = (here, all.1)
each_set P (x ∷ xs) (suc n) y all here = (all.0, each_set P xs n y all.1 here)

pub each_get : {X : Type 0} (P : X → Type 0) (xs : List X) (n : ℕ) (x : X) → Each P xs → slice_get xs n ≡ Some x → P x
each_get P [] n x all e = cc
each_get P (y ∷ xs) zero x all e = let same : y ≡ x = cc in subst P same all.0
each_get P (y ∷ xs) (suc n) x all e = each_get P xs n x all.1 e

pub each_by : {X : Type 0} (P : X → Type 0) (xs : List X) → ((n : ℕ) (x : X) → slice_get xs n ≡ Some x → P x) → Each P xs
each_by P [] h = tt
each_by P (x ∷ xs) h = (h 0 x refl, each_by P xs (λ n y e. h (suc n) y e))

-- two numbers are the same or not
pub same_or_other : (n m : ℕ) → (n ≡ m) ⊎ (n ≡ m → ⊥)
same_or_other n m = by (cases_Bool (n == m))
  where
    is_same : (a b : ℕ) → (a == b) ≡ true → a ≡ b
    is_same a b e = grind (arith, e)

    is_other : (a b : ℕ) → a ≡ b → (a == b) ≡ true
    is_other a b e = grind (arith, e)

    by : ((n == m) ≡ true) ⊎ ((n == m) ≡ false) → (n ≡ m) ⊎ (n ≡ m → ⊥)
    by (inl e) = inl (is_same n m e)
    by (inr e) = inr (λ s. both_ways (n == m) e (is_other n m s))

some_is : {X : Type 0} (x y : X) → Some x ≡ Some y → x ≡ y
some_is x y e = cc

-- what is at a place after a write is what was written, or was there before
pub set_get : {X : Type 0} (xs : List X) (i k : ℕ) (x y z : X) → slice_get xs i ≡ Some x → slice_get (set xs i y) k ≡ Some z
    → ((k ≡ i) × (y ≡ z)) ⊎ ((k ≡ i → ⊥) × (slice_get xs k ≡ Some z))
set_get {X} xs i k x y z there' e = by (same_or_other k i)
  where
    by : (k ≡ i) ⊎ (k ≡ i → ⊥) → ((k ≡ i) × (y ≡ z)) ⊎ ((k ≡ i → ⊥) × (slice_get xs k ≡ Some z))
    by (inl same) = inl (same, some_is y z (sym (get_set xs i x y there') ∙ subst (λ (n : ℕ). slice_get (set xs i y) n ≡ Some z) same e))
    by (inr other) = inr (other, sym (get_set_other xs i k y other) ∙ e)

-- one more at the end
pub filter_push : {X : Type 0} (test : X → Bool) (xs : List X) (x : X) → filter test (xs ++ x ∷ []) ≡ filter test xs ++ filter test (x ∷ [])
filter_push test [] x = refl
filter_push test (y ∷ xs) x = by (test y) (filter_push test xs x)
  where
    by : (b : Bool) → filter test (xs ++ x ∷ []) ≡ filter test xs ++ filter test (x ∷ [])
        → (if b then y ∷ filter test (xs ++ x ∷ []) else filter test (xs ++ x ∷ [])) ≡ (if b then y ∷ filter test xs else filter test xs) ++ filter test (x ∷ [])
    by true ih = ap (λ l. y ∷ l) ih
    by false ih = ih

pub take_next : {X : Type 0} (xs : List X) (n : ℕ) (x : X) → slice_get xs n ≡ Some x → take (suc n) xs ≡ take n xs ++ x ∷ []
take_next [] n x e = cc
take_next (y ∷ xs) zero x e = let same : y ≡ x = cc in ap (λ z. z ∷ []) same
take_next (y ∷ xs) (suc n) x e = ap (λ l. y ∷ l) (take_next xs n x e)

pub stands_within : {X : Type 0} (xs : List X) (n : ℕ) (x : X) → slice_get xs n ≡ Some x → suc n ≤ length xs
stands_within [] n x e = cc
stands_within (y ∷ xs) zero x e = omega arith
stands_within (y ∷ xs) (suc n) x e = let ih = stands_within xs n x e in omega (arith, ih)

pub there_is : {X : Type 0} (xs : List X) (n : ℕ) → suc n ≤ length xs → (x : X) × (slice_get xs n ≡ Some x)
there_is [] n h = absurd (omega (arith, h))
there_is (x ∷ xs) zero h = (x, refl)
there_is (x ∷ xs) (suc n) h = there_is xs n (omega (arith, h))
