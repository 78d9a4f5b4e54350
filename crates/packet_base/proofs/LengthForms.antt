-- Each Remaining Length below 2 ^ 28 has a form, and that form is the one that is read.
use Rattle.std.proofs.Common.{◌≡◌, ℕ, zero, suc, ◌+◌, ◌-◌, ◌*◌, ◌/◌, ◌%◌, ◌^◌, ◌<◌, ◌≤◌, false, ltb, eqb, List, [], ◌∷◌, ◌++◌, length, Ok, refl, sym, ap, subst, ◌∙◌, arith, inl, inr, ◌⊎◌}
use Rattle.std.specs.Prelude.{IfOk}
use Rattle.std.proofs.lemmas.Bool.{cases_lt, ltb-false, ltb-true, le-ltb, lt-ltb}
use Rattle.std.proofs.Math.Nat.{pow-succ'}
use Rattle.std.proofs.Math.Dec.{eqb-suc-zero}
use Rattle.packet_base.specs.Spelling.{IsLength, length_digits, remaining_length}
use Rattle.packet_base.specs.Readers.{AreBytes, length_at}
use Rattle.packet_base.proofs.Steps.{then_if, check_if, cond_if}
use Rattle.packet_base.proofs.Lengths.{length_longer}

-- the form of a length is before the rest
pub record Heads (bytes : List ℕ) (n : ℕ) (rest : List ℕ) : Type 0 where
  pub form : List ℕ
  pub spelled : IsLength form n
  pub parts : bytes ≡ form ++ rest
  pub left : AreBytes rest

longer : (b : ℕ) (bytes : List ℕ) (high : ℕ) (rest : List ℕ) → 128 ≤ b → b < 256 → 0 < high → Heads bytes high rest → Heads (b ∷ bytes) (b - 128 + 128 * high) rest
longer b bytes high rest more byte some h =
    let form : IsLength (b ∷ h.form) (b - 128 + 128 * high) = extended b h.form high more byte some h.spelled in
    record { form = b ∷ h.form; spelled = form; parts = ap (λ (x : List ℕ). b ∷ x) h.parts; left = h.left }
  where
    extended : (b : ℕ) (form : List ℕ) (high : ℕ) → 128 ≤ b → b < 256 → 0 < high → IsLength form high → IsLength (b ∷ form) (b - 128 + 128 * high)
    extended b [] high more byte some spelled = absurd spelled
    extended b (c ∷ bs) high more byte some spelled = (more, byte, high, some, omega arith, spelled)

pub length_found : (follow : ℕ) (bytes : List ℕ) → AreBytes bytes → IfOk (length_at follow bytes) (λ x. Heads bytes x.0 x.1)
unfolding length_at
length_found follow [] fits = tt
length_found follow (b ∷ rest) fits =
    let Q : ℕ × List ℕ → Type 0 = λ x. Heads (b ∷ rest) x.0 x.1 in
    cond_if (ltb b 128) _ _ Q
    (λ t. record { form = b ∷ []; spelled = (ltb-true _ _ t, refl); parts = refl; left = λ i. fits (suc i) })
    (λ t. cond_if (eqb follow 0) _ _ Q (λ u. tt) (λ u.
    then_if (length_at (follow - 1) rest) _ (λ x. Heads rest x.0 x.1) Q (length_found (follow - 1) rest (λ i. fits (suc i))) (λ x h.
    check_if (ltb 0 x.0) _ _ Q (λ v. longer b rest x.0 x.1 (ltb-false _ _ t) (fits 0) (ltb-true _ _ v) h))))

some_follow : (follow : ℕ) → 0 < follow → eqb follow 0 ≡ false
some_follow zero some = absurd (omega arith)
some_follow (suc n) some = eqb-suc-zero n

pub length_again : (follow : ℕ) (form rest : List ℕ) (n : ℕ) → IsLength form n → length form ≤ follow + 1 → length_at follow (form ++ rest) ≡ Ok (n, rest)
unfolding length_at
length_again follow [] rest n spelled few = absurd spelled
length_again follow (b ∷ []) rest n spelled few = rw (lt-ltb _ _ spelled.0, spelled.1) refl
length_again follow (b ∷ c ∷ bs) rest n spelled few =
    let high = spelled.2 in
    let again : length_at (follow - 1) (c ∷ bs ++ rest) ≡ Ok (high, rest) = length_again (follow - 1) (c ∷ bs) rest high spelled.5 (omega arith) in
    let more : eqb follow 0 ≡ false = some_follow follow (omega arith) in
    let whole : b - 128 + 128 * high ≡ n = omega (arith, spelled.4, spelled.0) in
    rw (le-ltb _ _ spelled.0, more, again, lt-ltb _ _ spelled.3, whole) refl

-- four bytes are enough below 2 ^ 28
pub short_form : (form : List ℕ) (n : ℕ) → IsLength form n → n < 2 ^ 28 → length form ≤ 4
short_form [] n spelled small = absurd spelled
short_form (a ∷ []) n spelled small = omega arith
short_form (a ∷ b ∷ []) n spelled small = omega arith
short_form (a ∷ b ∷ c ∷ []) n spelled small = omega arith
short_form (a ∷ b ∷ c ∷ d ∷ []) n spelled small = omega arith
short_form (a ∷ b ∷ c ∷ d ∷ e ∷ bs) n (p, q, x, r, s, (p1, q1, y, r1, s1, (p2, q2, z, r2, s2, (p3, q3, w, r3, s3, t)))) small =
    absurd (omega (arith, s, s1, s2, s3, p, p1, p2, p3, r3))

-- the form of a length, made byte by byte
form_from : (fuel n : ℕ) → n < 128 ^ (suc fuel) → (form : List ℕ) × IsLength form n
form_from zero n small = (n ∷ [], (omega (arith, small), refl))
form_from (suc fuel) n small =
    let limit : 128 ^ suc (suc fuel) ≡ 128 * 128 ^ suc fuel = pow-succ' 128 (suc fuel) in
    elim (cases_lt n 128) [
      | inl low ↦ (n ∷ [], (low, refl))
      | inr high ↦ let rest = form_from fuel (n / 128) (omega (arith, limit, small)) in ((n % 128 + 128) ∷ rest.0, length_longer n rest.0 high rest.1)
    ]

-- each length has one
pub form_of : (n : ℕ) → n < 2 ^ 28 → (form : List ℕ) × IsLength form n
form_of n small = form_from 3 n small

-- the one that is written
digits_spell : (fuel n : ℕ) → n < 128 ^ (suc fuel) → IsLength (length_digits fuel n) n
digits_spell zero n small = (omega (arith, small), refl)
digits_spell (suc fuel) n small = by (cases_lt n 128)
    (λ high. let limit : 128 ^ suc (suc fuel) ≡ 128 * 128 ^ suc fuel = pow-succ' 128 (suc fuel) in
    length_longer n (length_digits fuel (n / 128)) high (digits_spell fuel (n / 128) (omega (arith, limit, small))))
  where
    by : (n < 128) ⊎ (128 ≤ n) → (128 ≤ n → IsLength ((n % 128 + 128) ∷ length_digits fuel (n / 128)) n) → IsLength (length_digits (suc fuel) n) n
    by (inl low) more = rw (lt-ltb _ _ low) (low, refl)
    by (inr high) more = rw (le-ltb _ _ high) (more high)

pub length_spelled : (n : ℕ) → n < 2 ^ 28 → IsLength (remaining_length n) n
length_spelled n small = digits_spell 3 n small

-- and no other one
pub one_form : (a b : List ℕ) (n : ℕ) → IsLength a n → IsLength b n → a ≡ b
one_form [] b n p q = absurd p
one_form (x ∷ xs) [] n p q = absurd q
one_form (x ∷ []) (y ∷ []) n p q = ap (λ (z : ℕ). z ∷ []) (sym p.1 ∙ q.1)
one_form (x ∷ []) (y ∷ d ∷ ds) n p q = absurd (omega (arith, p.0, p.1, q.0, q.3, q.4))
one_form (x ∷ c ∷ cs) (y ∷ []) n p q = absurd (omega (arith, q.0, q.1, p.0, p.3, p.4))
one_form (x ∷ c ∷ cs) (y ∷ d ∷ ds) n p q =
    let low : x ≡ y = omega (arith, p.0, p.1, p.4, q.0, q.1, q.4) in
    let high : q.2 ≡ p.2 = omega (arith, p.0, p.1, p.4, q.0, q.1, q.4) in
    let rest : c ∷ cs ≡ d ∷ ds = one_form (c ∷ cs) (d ∷ ds) p.2 p.5 (subst (λ (m : ℕ). IsLength (d ∷ ds) m) high q.5) in
    ap (λ (z : ℕ). z ∷ c ∷ cs) low ∙ ap (λ (z : List ℕ). y ∷ z) rest

-- what is left after a length is the end of the bytes
pub length_left : (follow : ℕ) (bytes : List ℕ) → IfOk (length_at follow bytes) (λ x. (front : List ℕ) × (bytes ≡ front ++ x.1))
unfolding length_at
length_left follow [] = tt
length_left follow (b ∷ rest) =
    let Q : ℕ × List ℕ → Type 0 = λ x. (front : List ℕ) × (b ∷ rest ≡ front ++ x.1) in
    cond_if (ltb b 128) _ _ Q (λ t. (b ∷ [], refl)) (λ t.
    cond_if (eqb follow 0) _ _ Q (λ u. tt) (λ u.
    then_if (length_at (follow - 1) rest) _ (λ x. (front : List ℕ) × (rest ≡ front ++ x.1)) Q (length_left (follow - 1) rest) (λ x h.
    check_if (ltb 0 x.0) _ _ Q (λ v. (b ∷ h.0, ap (λ (z : List ℕ). b ∷ z) h.1)))))
