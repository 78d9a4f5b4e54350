-- Numbers that rise: of publications by their places, of a prefix of these, of some below a bound
-- and others from it on.
use Rattle.std.proofs.Common.{◌≡◌, ◌<◌, ◌≤◌, ◌+◌, ℕ, suc, Bool, true, false, ◌==◌, if◌then◌else◌, List, [], ◌∷◌, ◌++◌, length, refl, subst, arith}
use Rattle.lists.specs.Lists.{has_id, IsDistinct, IsPrefixOf, Each}
use Rattle.lists.proofs.OfEach.{each_then, each_left}
use Rattle.lists.proofs.Tests.{none_or}
use Rattle.client_base.specs.Keeper.{Own, number_in}
use Rattle.client_base.specs.OrderTheorems.{AreNumbered}
use Rattle.exactly_once.specs.Carried.{is_qos2, own_qos2_numbers, own_publication}
use Rattle.exactly_once.specs.Lives.{NumbersRise}
use Rattle.exactly_once.proofs.carrying.Distinct.{number_first}

-- ---- a prefix, and more

pub rising_front : (xs ys : List ℕ) → NumbersRise (xs ++ ys) → NumbersRise xs
rising_front [] ys h = tt
rising_front (x ∷ xs) ys h = (each_left (λ m. x < m) xs ys h.0, rising_front xs ys h.1)

above : (b x : ℕ) (ys : List ℕ) → x < b → Each (λ m. b ≤ m) ys → Each (λ m. x < m) ys
above b x ys less h = each_then (λ m. b ≤ m) (λ m. x < m) ys (λ m more. omega (arith, less, more)) h

joined : (x : ℕ) (xs ys : List ℕ) → Each (λ m. x < m) xs → Each (λ m. x < m) ys → Each (λ m. x < m) (xs ++ ys)
joined x [] ys h g = g
joined x (z ∷ xs) ys h g = (h.0, joined x xs ys h.1 g)

-- those below a bound are in front of those from it on
pub rising_after : (b : ℕ) (xs ys : List ℕ) → NumbersRise xs → Each (λ n. n < b) xs → NumbersRise ys → Each (λ n. b ≤ n) ys → NumbersRise (xs ++ ys)
rising_after b [] ys h less g more = g
rising_after b (x ∷ xs) ys h less g more = (joined x xs ys h.0 (above b x ys less.0 more), rising_after b xs ys h.1 less.1 g more)

-- what rises is distinct
other : (x y : ℕ) → x < y → (x == y) ≡ false
other x y less = grind (arith, less)

not_there : (x : ℕ) (xs : List ℕ) → Each (λ m. x < m) xs → has_id x xs ≡ false
not_there x [] h = refl
not_there x (y ∷ xs) h = none_or (x == y) (has_id x xs) (other x y h.0) (not_there x xs h.1)

pub rising_apart : (xs : List ℕ) → NumbersRise xs → IsDistinct xs
rising_apart [] h = tt
rising_apart (x ∷ xs) h = (not_there x xs h.0, rising_apart xs h.1)

-- ---- of publications

-- from this number on
pub published_from : (n : ℕ) (own : List Own) → AreNumbered n own → Each (λ m. n ≤ m) (own_qos2_numbers own)
published_from n [] h = tt
published_from n (o ∷ own) h =
    let first = number_first n o own h in
    let is = first.0 in
    by (is_qos2 (own_publication o).qos) (omega (arith, is)) (each_then (λ m. suc n ≤ m) (λ m. n ≤ m) (own_qos2_numbers own) (λ m more. omega (arith, more)) (published_from (suc n) own first.1))
  where
    by : (b : Bool) → n ≤ number_in o → Each (λ m. n ≤ m) (own_qos2_numbers own) → Each (λ m. n ≤ m) (if b then number_in o ∷ own_qos2_numbers own else own_qos2_numbers own)
    by true first rest = (first, rest)
    by false first rest = rest

-- and below the next one
pub published_below : (n : ℕ) (own : List Own) → AreNumbered n own → Each (λ m. m < n + length own) (own_qos2_numbers own)
published_below n [] h = tt
published_below n (o ∷ own) h =
    let first = number_first n o own h in
    let is = first.0 in
    by (is_qos2 (own_publication o).qos) (omega (arith, is))
    (each_then (λ m. m < suc n + length own) (λ m. m < n + suc (length own)) (own_qos2_numbers own) (λ m less. omega (arith, less)) (published_below (suc n) own first.1))
  where
    by : (b : Bool) → number_in o < n + suc (length own) → Each (λ m. m < n + suc (length own)) (own_qos2_numbers own)
        → Each (λ m. m < n + suc (length own)) (if b then number_in o ∷ own_qos2_numbers own else own_qos2_numbers own)
    by true first rest = (first, rest)
    by false first rest = rest

pub published_rises : (n : ℕ) (own : List Own) → AreNumbered n own → NumbersRise (own_qos2_numbers own)
published_rises n [] h = tt
published_rises n (o ∷ own) h =
    let first = number_first n o own h in
    let is = first.0 in
    by (is_qos2 (own_publication o).qos) (each_then (λ m. suc n ≤ m) (λ m. number_in o < m) (own_qos2_numbers own) (λ m more. omega (arith, more, is)) (published_from (suc n) own first.1))
    (published_rises (suc n) own first.1)
  where
    by : (b : Bool) → Each (λ m. number_in o < m) (own_qos2_numbers own) → NumbersRise (own_qos2_numbers own) → NumbersRise (if b then number_in o ∷ own_qos2_numbers own else own_qos2_numbers own)
    by true more rest = (more, rest)
    by false more rest = rest

-- a prefix of these
pub prefix_each : (P : ℕ → Type 0) (xs ys : List ℕ) → IsPrefixOf xs ys → Each P ys → Each P xs
prefix_each P xs ys p h = each_left P xs p.rest (subst (Each P) p.is h)

pub prefix_rises : (xs ys : List ℕ) → IsPrefixOf xs ys → NumbersRise ys → NumbersRise xs
prefix_rises xs ys p h = rising_front xs p.rest (subst NumbersRise p.is h)
