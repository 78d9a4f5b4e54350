-- The smallest number from 1 up that is not busy: it is not busy, each smaller one is, and it is at most one more than how many are.
use Rattle.std.proofs.Common.{◌≡◌, ℕ, zero, suc, ◌≤◌, ◌<◌, ◌+◌, Bool, true, false, ◌||◌, ◌==◌, nat_le, if◌then◌else◌, List, [], ◌∷◌, length, refl, sym, ◌∙◌, ap, arith}
use Rattle.lists.specs.Lists.{has_id}
use Rattle.session_base.specs.Identifiers.{free_from, least_free}

abbrev pub one_if : Bool → ℕ
one_if true = 1
one_if false = 0

-- how many of these are from i on
abbrev pub above : ℕ → List ℕ → ℕ
above i [] = 0
above i (j ∷ js) = one_if (nat_le i j) + above i js

one-split-by : (i j : ℕ) (a b c : Bool) → nat_le i j ≡ a → (i == j) ≡ b → nat_le (suc i) j ≡ c → one_if a ≡ one_if b + one_if c
one-split-by i j true true true e f g = grind (arith, e, f, g)
one-split-by i j true true false e f g = refl
one-split-by i j true false true e f g = refl
one-split-by i j true false false e f g = grind (arith, e, f, g)
one-split-by i j false true true e f g = grind (arith, e, f, g)
one-split-by i j false true false e f g = grind (arith, e, f, g)
one-split-by i j false false true e f g = grind (arith, e, f, g)
one-split-by i j false false false e f g = refl

one-split : (i j : ℕ) → one_if (nat_le i j) ≡ one_if (i == j) + one_if (nat_le (suc i) j)
one-split i j = one-split-by i j (nat_le i j) (i == j) (nat_le (suc i) j) refl refl refl

-- how many of these are i
abbrev pub times : ℕ → List ℕ → ℕ
times i [] = 0
times i (j ∷ js) = one_if (i == j) + times i js

above-split : (i : ℕ) (js : List ℕ) → above i js ≡ times i js + above (suc i) js
above-split i [] = refl
above-split i (j ∷ js) = let s = one-split i j in let ih = above-split i js in omega (arith, s, ih)

times-by : (b more : Bool) (n : ℕ) → (more ≡ true → 1 ≤ n) → b || more ≡ true → 1 ≤ one_if b + n
times-by true more n ih h = omega arith
times-by false more n ih h = let t = ih h in omega (arith, t)

times-has : (i : ℕ) (js : List ℕ) → has_id i js ≡ true → 1 ≤ times i js
times-has i [] e = cc
times-has i (j ∷ js) e = times-by (i == j) (has_id i js) (times i js) (times-has i js) e

above-by : (b : Bool) (n m : ℕ) → n ≤ m → one_if b + n ≤ suc m
above-by true n m h = omega (arith, h)
above-by false n m h = omega (arith, h)

above-all : (i : ℕ) (js : List ℕ) → above i js ≤ length js
above-all i [] = omega arith
above-all i (j ∷ js) = above-by (nat_le i j) (above i js) (length js) (above-all i js)

fewer : (i many : ℕ) (js : List ℕ) → above i js ≤ suc many → has_id i js ≡ true → above (suc i) js ≤ many
fewer i many js h e = let t = times-has i js e in let s = above-split i js in omega (arith, h, t, s)

impossible : (i : ℕ) (js : List ℕ) → above i js ≤ 0 → has_id i js ≡ true → ⊥
impossible i js h e = let t = times-has i js e in let s = above-split i js in omega (arith, h, t, s)

none-above : (i : ℕ) (js : List ℕ) → above i js ≤ 0 → (b : Bool) → has_id i js ≡ b → b ≡ false
none-above i js h true e = elim (impossible i js h e) [ ]
none-above i js h false e = refl

free-by : (many i : ℕ) (js : List ℕ) → (above (suc i) js ≤ many → has_id (free_from many (suc i) js) js ≡ false) → above i js ≤ suc many
    → (b : Bool) → has_id i js ≡ b → has_id (if b then free_from many (suc i) js else i) js ≡ false
free-by many i js ih h true e = ih (fewer i many js h e)
free-by many i js ih h false e = e

not-busy : (many i : ℕ) (js : List ℕ) → above i js ≤ many → has_id (free_from many i js) js ≡ false
not-busy zero i js h = none-above i js h (has_id i js) refl
not-busy (suc many) i js h = free-by many i js (not-busy many (suc i) js) h (has_id i js) refl

-- it is not busy
pub least-is-free : (js : List ℕ) → has_id (least_free js) js ≡ false
least-is-free js = not-busy (length js) 1 js (above-all 1 js)

reach-by : (many i : ℕ) (js : List ℕ) → (suc i ≤ free_from many (suc i) js) × (free_from many (suc i) js ≤ suc i + many)
    → (b : Bool) → (i ≤ (if b then free_from many (suc i) js else i)) × ((if b then free_from many (suc i) js else i) ≤ i + suc many)
reach-by many i js ih true = (omega (arith, ih.0), omega (arith, ih.1))
reach-by many i js ih false = (omega arith, omega arith)

reach : (many i : ℕ) (js : List ℕ) → (i ≤ free_from many i js) × (free_from many i js ≤ i + many)
reach zero i js = (omega arith, omega arith)
reach (suc many) i js = reach-by many i js (reach many (suc i) js) (has_id i js)

-- it is at least 1, and at most one more than how many are busy
pub least-in-reach : (js : List ℕ) → (1 ≤ least_free js) × (least_free js ≤ 1 + length js)
least-in-reach js = reach (length js) 1 js

smaller-by : (many i : ℕ) (js : List ℕ) (j : ℕ) → (suc i ≤ j → j < free_from many (suc i) js → has_id j js ≡ true) → i ≤ j
    → (b : Bool) → has_id i js ≡ b → j < (if b then free_from many (suc i) js else i) → (same : Bool) → (i == j) ≡ same → has_id j js ≡ true
smaller-by many i js j ih h true e l true s = let t : i ≡ j = grind (arith, s) in ap (λ z. has_id z js) (sym t) ∙ e
smaller-by many i js j ih h true e l false s = ih (grind (arith, h, s)) l
smaller-by many i js j ih h false e l same s = elim (none h l) [ ]
  where
    none : i ≤ j → j < i → ⊥
    none a b = omega (arith, a, b)

smaller : (many i : ℕ) (js : List ℕ) (j : ℕ) → i ≤ j → j < free_from many i js → has_id j js ≡ true
smaller zero i js j h l = elim (none h l) [ ]
  where
    none : i ≤ j → j < i → ⊥
    none a b = omega (arith, a, b)
smaller (suc many) i js j h l = smaller-by many i js j (smaller many (suc i) js j) h (has_id i js) refl l (i == j) refl

-- each smaller one from 1 up is busy
pub smaller-are-busy : (js : List ℕ) (j : ℕ) → 1 ≤ j → j < least_free js → has_id j js ≡ true
smaller-are-busy js = smaller (length js) 1 js
