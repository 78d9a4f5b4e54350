-- Bounds on a Remaining Length, how many bytes it takes, and how they are written one by one.
use Rattle.std.proofs.Common.{◌≡◌, ℕ, zero, suc, ◌+◌, ◌-◌, ◌*◌, ◌/◌, ◌%◌, ◌^◌, ◌<◌, ◌≤◌, List, [], ◌∷◌, ◌++◌, refl, ap, ◌∙◌, arith, lit≤, inl, inr, append_assoc}
use Rattle.std.proofs.lemmas.Bool.{cases_lt, le-ltb, lt-ltb}
use Rattle.std.proofs.Math.Nat.{pow-succ', one-le-pow}
use Rattle.packet_base.specs.Inside.{length_limit}
use Rattle.packet_base.specs.Spelling.{IsLength, length_bytes}

-- of at least one byte
pub limit_least : (follow : ℕ) → 128 ≤ length_limit follow
limit_least follow =
    let more : follow + 1 ≡ suc follow = omega arith in
    rw (more, pow-succ' 128 follow) (omega (arith, one-le-pow follow 128 (omega arith)))

-- each byte has seven bits
pub limit_step : (follow : ℕ) → 0 < follow → length_limit follow ≡ 128 * length_limit (follow - 1)
limit_step zero some = absurd (omega arith)
limit_step (suc n) some =
    let less : suc n - 1 + 1 ≡ suc n = omega arith in
    let more : suc n + 1 ≡ suc (suc n) = omega arith in
    rw (less, more) (pow-succ' 128 (suc n))

-- four bytes stay below 2 ^ 28
pub limit_below : (follow : ℕ) → follow < 4 → length_limit (follow - 1) ≤ 2 ^ 21
limit_below zero few = lit≤ tt
limit_below (suc zero) few = lit≤ tt
limit_below (suc (suc zero)) few = lit≤ tt
limit_below (suc (suc (suc zero))) few = lit≤ tt
limit_below (suc (suc (suc (suc n)))) few = absurd (omega arith)

pub ruleset limits = (limit_least, limit_step, limit_below)

-- any other than the shortest takes one byte more than what is left of it
pub bytes_step : (n : ℕ) → 128 ≤ n → n < 2 ^ 28 → length_bytes n ≡ 1 + length_bytes (n / 128)
bytes_step n high small =
    elim (cases_lt n 16384) [
      | inl two ↦ rw (le-ltb n 128 high, lt-ltb n 16384 two, lt-ltb (n / 128) 128 (omega arith)) refl
      | inr more ↦ elim (cases_lt n 2097152) [
        | inl three ↦ rw (le-ltb n 128 high, le-ltb n 16384 more, lt-ltb n 2097152 three, le-ltb (n / 128) 128 (omega arith), lt-ltb (n / 128) 16384 (omega arith)) refl
        | inr four ↦ rw (le-ltb n 128 high, le-ltb n 16384 more, le-ltb n 2097152 four, le-ltb (n / 128) 128 (omega arith), le-ltb (n / 128) 16384 (omega arith), lt-ltb (n / 128) 2097152 (omega arith)) refl
      ]
    ]

-- what is left of a length comes after its low seven bits
pub length_longer : (n : ℕ) (tail : List ℕ) → 128 ≤ n → IsLength tail (n / 128) → IsLength ((n % 128 + 128) ∷ tail) n
length_longer n [] high spelled = absurd spelled
length_longer n (b ∷ bs) high spelled = (omega arith, omega arith, n / 128, omega arith, omega arith, spelled)

-- a byte at the end is a byte before what follows
pub pushed : (old new tail : List ℕ) (b : ℕ) → new ≡ old ++ b ∷ [] → new ++ tail ≡ old ++ b ∷ tail
pushed old new tail b e = ap (λ (x : List ℕ). x ++ tail) e ∙ append_assoc old (b ∷ []) tail
