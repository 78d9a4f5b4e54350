-- Names of connections: two that are the same are one.
use Rattle.std.proofs.Common.{◌≡◌, ℕ, true, false, ◌&&◌, ◌==◌, refl, arith, inl, inr, ◌⊎◌}
use Rattle.std.proofs.lemmas.Bool.{both_ways, cases_Bool}
use Rattle.broker_spec.specs.Connection.{ConnectionName, same_connection}

-- two names that are the same are one
pub same_name : (x y : ConnectionName) → same_connection x y ≡ true → x ≡ y
same_name x y e = by (cases_Bool (x.ballot == y.ballot)) (cases_Bool (x.count == y.count))
  where
    by : ((x.ballot == y.ballot) ≡ true) ⊎ ((x.ballot == y.ballot) ≡ false) → ((x.count == y.count) ≡ true) ⊎ ((x.count == y.count) ≡ false) → x ≡ y
    by (inl a) (inl b) =
        let p : x.ballot ≡ y.ballot = grind (arith, a) in
        let q : x.count ≡ y.count = grind (arith, b) in
        λ i. record { ballot = p i; count = q i }
    by (inr a) b = absurd (both_ways ((x.ballot == y.ballot) && (x.count == y.count)) (rw a refl) e)
    by (inl a) (inr b) = absurd (both_ways ((x.ballot == y.ballot) && (x.count == y.count)) (rw (a, b) refl) e)

-- a name is the same as itself
pub same_itself : (x : ConnectionName) → same_connection x x ≡ true
same_itself x = rw (same x.ballot, same x.count) refl
  where
    same : (n : ℕ) → (n == n) ≡ true
    same n = grind arith
