-- Which identifiers are among others, and lists in which none comes twice.
use Rattle.std.proofs.Common.{◌≡◌, ℕ, true, false, ◌||◌, ◌==◌, List, [], ◌∷◌, ◌++◌, refl, ap, sym, ◌∙◌, subst, inl, inr, ◌⊎◌}
use Rattle.std.proofs.lemmas.Bool.{or_cases, both_ways, cases_Bool}
use Rattle.lists.specs.Lists.{has_id, IsDistinct}
use Rattle.lists.proofs.Tests.{or_none, none_or, or_right, or_left, or_assoc, eq_same, eq_is, eq_turn}

pub has_append : (i : ℕ) (xs ys : List ℕ) → has_id i (xs ++ ys) ≡ (has_id i xs || has_id i ys)
has_append i [] ys = refl
has_append i (x ∷ xs) ys = ap (λ b. (i == x) || b) (has_append i xs ys) ∙ sym (or_assoc (i == x) (has_id i xs) (has_id i ys))

pub has_split : (i : ℕ) (xs ys : List ℕ) → has_id i (xs ++ ys) ≡ false → (has_id i xs ≡ false) × (has_id i ys ≡ false)
has_split i xs ys e = or_none (has_id i xs) (has_id i ys) (sym (has_append i xs ys) ∙ e)

pub has_join : (i : ℕ) (xs ys : List ℕ) → has_id i xs ≡ false → has_id i ys ≡ false → has_id i (xs ++ ys) ≡ false
has_join i xs ys e f = has_append i xs ys ∙ none_or (has_id i xs) (has_id i ys) e f

pub has_either : (i : ℕ) (xs ys : List ℕ) → has_id i (xs ++ ys) ≡ true → (has_id i xs ≡ true) ⊎ (has_id i ys ≡ true)
has_either i xs ys e = or_cases (has_id i xs) (has_id i ys) (sym (has_append i xs ys) ∙ e)

-- one that is there, and one that is not, are two
pub other_id : (i j : ℕ) (xs : List ℕ) → has_id i xs ≡ false → has_id j xs ≡ true → (i == j) ≡ false
other_id i j xs e f = by (cases_Bool (i == j))
  where
    by : ((i == j) ≡ true) ⊎ ((i == j) ≡ false) → (i == j) ≡ false
    by (inr h) = h
    by (inl h) = absurd (both_ways (has_id i xs) e (subst (λ (k : ℕ). has_id k xs ≡ true) (sym (eq_is i j h)) f))

pub distinct_push : (xs : List ℕ) (x : ℕ) → IsDistinct xs → has_id x xs ≡ false → IsDistinct (xs ++ x ∷ [])
distinct_push [] x d e = (refl, tt)
distinct_push (y ∷ xs) x d e =
    let h = or_none (x == y) (has_id x xs) e in
    (has_join y xs (x ∷ []) d.0 (none_or (y == x) false (eq_turn x y h.0) refl), distinct_push xs x d.1 h.1)

pub distinct_rotate : (x : ℕ) (xs : List ℕ) → IsDistinct (x ∷ xs) → IsDistinct (xs ++ x ∷ [])
distinct_rotate x xs d = distinct_push xs x d.1 d.0

pub distinct_after : (xs ys : List ℕ) → IsDistinct (xs ++ ys) → IsDistinct ys
distinct_after [] ys d = d
distinct_after (x ∷ xs) ys d = distinct_after xs ys d.1

pub distinct_front : (xs ys : List ℕ) → IsDistinct (xs ++ ys) → IsDistinct xs
distinct_front [] ys d = tt
distinct_front (x ∷ xs) ys d = ((has_split x xs ys d.0).0, distinct_front xs ys d.1)

-- what is in front does not come after
pub distinct_apart : (i : ℕ) (xs ys : List ℕ) → IsDistinct (xs ++ ys) → has_id i xs ≡ true → has_id i ys ≡ false
distinct_apart i [] ys d e = absurd (both_ways false refl e)
distinct_apart i (x ∷ xs) ys d e = by (or_cases (i == x) (has_id i xs) e) (distinct_apart i xs ys d.1)
  where
    by : ((i == x) ≡ true) ⊎ (has_id i xs ≡ true) → (has_id i xs ≡ true → has_id i ys ≡ false) → has_id i ys ≡ false
    by (inl h) ih = subst (λ (k : ℕ). has_id k ys ≡ false) (sym (eq_is i x h)) (has_split x xs ys d.0).1
    by (inr h) ih = ih h

-- without one in the middle
pub distinct_without : (xs : List ℕ) (x : ℕ) (ys : List ℕ) → IsDistinct (xs ++ x ∷ ys) → IsDistinct (xs ++ ys)
distinct_without [] x ys d = d.1
distinct_without (y ∷ xs) x ys d =
    let h = has_split y xs (x ∷ ys) d.0 in
    (has_join y xs ys h.0 (or_none (y == x) (has_id y ys) h.1).1, distinct_without xs x ys d.1)

-- the one in the middle is nowhere else
pub distinct_middle : (xs : List ℕ) (x : ℕ) (ys : List ℕ) → IsDistinct (xs ++ x ∷ ys) → (has_id x xs ≡ false) × (has_id x ys ≡ false)
distinct_middle [] x ys d = (refl, d.0)
distinct_middle (y ∷ xs) x ys d =
    let h = distinct_middle xs x ys d.1 in
    let g = or_none (y == x) (has_id y ys) (has_split y xs (x ∷ ys) d.0).1 in
    (none_or (x == y) (has_id x xs) (eq_turn y x g.0) h.0, h.1)

-- one more in the middle
pub distinct_insert : (xs : List ℕ) (x : ℕ) (ys : List ℕ) → IsDistinct (xs ++ ys) → has_id x xs ≡ false → has_id x ys ≡ false → IsDistinct (xs ++ x ∷ ys)
distinct_insert [] x ys d e f = (f, d)
distinct_insert (y ∷ xs) x ys d e f =
    let h = has_split y xs ys d.0 in
    let g = or_none (x == y) (has_id x xs) e in
    (has_join y xs (x ∷ ys) h.0 (none_or (y == x) (has_id y ys) (eq_turn x y g.0) h.1), distinct_insert xs x ys d.1 g.1 f)

pub distinct_joined : (xs ys : List ℕ) → IsDistinct xs → IsDistinct ys → ((i : ℕ) → has_id i xs ≡ true → has_id i ys ≡ false) → IsDistinct (xs ++ ys)
distinct_joined [] ys d e h = e
distinct_joined (x ∷ xs) ys d e h = (
  has_join x xs ys d.0 (h x (or_left (x == x) (has_id x xs) (eq_same x))),
  distinct_joined xs ys d.1 e (λ i f. h i (or_right (i == x) (has_id i xs) f)),
)
