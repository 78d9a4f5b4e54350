-- Two tests, one of which holds; and equal numbers.
use Rattle.std.proofs.Common.{◌≡◌, ℕ, Bool, true, false, ◌||◌, ◌==◌, refl, arith}
use Rattle.std.proofs.lemmas.Bool.{both_ways}

pub or_none : (x y : Bool) → (x || y) ≡ false → (x ≡ false) × (y ≡ false)
or_none true y e = absurd (both_ways true e refl)
or_none false y e = (refl, e)

pub none_or : (x y : Bool) → x ≡ false → y ≡ false → (x || y) ≡ false
none_or x y e f = rw e f

pub or_right : (x y : Bool) → y ≡ true → (x || y) ≡ true
or_right true y e = refl
or_right false y e = e

pub or_left : (x y : Bool) → x ≡ true → (x || y) ≡ true
or_left x y e = rw e refl

-- the first stays, the second gives another
pub or_then : (x y z : Bool) → (x || y) ≡ true → (y ≡ true → z ≡ true) → (x || z) ≡ true
or_then true y z e f = refl
or_then false y z e f = f e

-- the first is not, so the second gives another
pub or_second : (x y z : Bool) → x ≡ false → (x || y) ≡ true → (y ≡ true → z ≡ true) → z ≡ true
or_second true y z n e f = absurd (both_ways true n refl)
or_second false y z n e f = f e

pub or_assoc : (x y z : Bool) → ((x || y) || z) ≡ (x || (y || z))
or_assoc true y z = refl
or_assoc false y z = refl

pub eq_same : (n : ℕ) → (n == n) ≡ true
eq_same n = grind arith

pub eq_is : (n m : ℕ) → (n == m) ≡ true → n ≡ m
eq_is n m e = grind (arith, e)

pub eq_turn : (n m : ℕ) → (n == m) ≡ false → (m == n) ≡ false
eq_turn n m e = grind (arith, e)
