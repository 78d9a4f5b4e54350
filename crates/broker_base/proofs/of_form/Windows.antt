-- Windows.antt: no window is over 64.
use Rattle.std.proofs.Common.{◌≡◌, ℕ, ◌≤◌, Bool, true, false, ◌||◌, ◌==◌, refl, arith}
use Rattle.std.proofs.lemmas.Bool.{eqb-true}
use Rattle.broker_spec.specs.Window.{IsWindowSize}

pub no_more : (n : ℕ) → IsWindowSize n → n ≤ 64
no_more n h = by (n == 16) (n == 64) refl refl h
  where
    by : (a b : Bool) → (n == 16) ≡ a → (n == 64) ≡ b → (a || b) ≡ true → n ≤ 64
    by true b e f k = let is : n ≡ 16 = eqb-true n 16 e in omega (arith, is)
    by false true e f k = let is : n ≡ 64 = eqb-true n 64 f in omega (arith, is)
    by false false e f k = absurd (cc)
