-- The last of a list by its index, and that an identifier above the last of rising ones comes after
-- them.
use Rattle.std.proofs.Common.{◌≡◌, ℕ, suc, ◌-◌, true, nat_lt, Option, Some, None, List, [], ◌∷◌, ◌++◌, length, refl, sym, ap, ◌∙◌, slice_get, arith}
use Rattle.std.specs.declared.cmp.Ordering.TheVariants.{Less, Greater}
use Rattle.std.specs.Ordering.{nat_cmp, match_ordering}
use Rattle.std.specs.List.{AllByRecursion, last_or}
use Rattle.std.specs.List.Sorted.{IsStrictlySortedBy}
use Rattle.session_base.specs.Identifiers.{with_id}
use Rattle.session_base.specs.Counted.{last_of}
use Rattle.session_base.specs.Form.{is_above_last, is_above}

pub last_is : {A : Type 0} (xs : List A) (x : A) (o : Option A) → last_or o (x ∷ xs) ≡ slice_get (x ∷ xs) (length (x ∷ xs) - 1)
last_is [] x o = refl
last_is (y ∷ ys) x o =
    let e : length (x ∷ y ∷ ys) - 1 ≡ suc (length (y ∷ ys) - 1) = omega arith in
    last_is ys y (Some x) ∙ ap (λ n. slice_get (x ∷ y ∷ ys) n) (sym e)

-- an identifier above the last is above all
greater : (i j : ℕ) → nat_lt j i ≡ true → nat_cmp i j ≡ Greater
greater i j e = grind (arith, e)

greater_still : (i j k : ℕ) → nat_cmp j k ≡ Less → nat_cmp i k ≡ Greater → nat_cmp i j ≡ Greater
greater_still i j k e f = grind (arith, e, f)

above_all : (id : ℕ) (ids : List ℕ) → IsStrictlySortedBy nat_cmp ids → is_above ids id ≡ true → AllByRecursion (λ other. nat_cmp id other ≡ Greater) ids
unfolding IsStrictlySortedBy
above_all id [] rising e = tt
above_all id (first ∷ []) rising e = (greater id first e, tt)
above_all id (first ∷ second ∷ ids) rising e =
    let more = above_all id (second ∷ ids) rising.1 e in (greater_still id first second rising.0.0 more.0, more)

pub comes_last : (id : ℕ) (ids : List ℕ) → IsStrictlySortedBy nat_cmp ids → is_above ids id ≡ true → with_id id ids ≡ ids ++ id ∷ []
comes_last id ids rising e = by ids (above_all id ids rising e)
  where
    by : (ids : List ℕ) → AllByRecursion (λ other. nat_cmp id other ≡ Greater) ids → with_id id ids ≡ ids ++ id ∷ []
    by [] h = refl
    by (first ∷ ids) h = ap (λ o. match_ordering o (id ∷ first ∷ ids) (first ∷ ids) (first ∷ with_id id ids)) h.0 ∙ ap (λ z. first ∷ z) (by ids h.1)

pub above_last : (ids : List ℕ) (last id : ℕ) → slice_get ids (length ids - 1) ≡ Some last → is_above ids id ≡ nat_lt last id
above_last [] last id e = absurd (cc)
above_last (first ∷ ids) last id e = ap (λ (o : Option ℕ). is_above_last o id) (last_is ids first None ∙ e)

-- the last of a list that is not empty is at its index
pub last_at : {A : Type 0} (xs : List A) (last : A) → slice_get xs (length xs - 1) ≡ Some last → last_of xs ≡ Some last
last_at [] last e = absurd (cc)
last_at (first ∷ xs) last e = last_is xs first None ∙ e
