-- Which pass is a lane's, after it moved to another pass.
use Rattle.std.specs.Prelude.{◌≡◌, ◌≢◌, ◌==◌, ℕ, true, false, if◌then◌else◌, refl}
use Rattle.std.proofs.Common.{sym, eq-eqb, ne_eqb, true≢false}

-- the lane's pass is now this one
abbrev pub repassed : ℕ → ℕ → (ℕ → ℕ) → ℕ → ℕ
repassed lane port pass_of k = if k == lane then port else pass_of k

pub repassed-same : (lane port : ℕ) (pass_of : ℕ → ℕ) (k : ℕ) → k ≡ lane → repassed lane port pass_of k ≡ port
repassed-same lane port pass_of k e = rw (eq-eqb k lane e) refl

pub repassed-other : (lane port : ℕ) (pass_of : ℕ → ℕ) (k : ℕ) → k ≢ lane → repassed lane port pass_of k ≡ pass_of k
repassed-other lane port pass_of k n = rw (ne_eqb k lane n) refl

pub not_false : false ≡ true → ⊥
not_false e = true≢false (sym e)
