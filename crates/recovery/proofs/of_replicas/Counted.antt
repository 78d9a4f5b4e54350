-- Numbers that follow one another, and how many they are.
use Rattle.std.proofs.Common.{◌≡◌, ℕ, zero, suc, ◌+◌, ◌*◌, List, [], ◌∷◌, ◌++◌, length, refl, sym, ap, ◌∙◌, arith, append_assoc}
use Rattle.std.proofs.lemmas.List.{length-append}
use Rattle.recovery.specs.replicas.Deliveries.{asked_and_answered, activate_number, numbers_from, recovery_messages}
use Rattle.recovery.specs.replicas.Lengths.{RecoveriesAreShort}

-- ---- one more

last_from : (k count : ℕ) → numbers_from k (suc count) ≡ numbers_from k count ++ (k + count) ∷ []
last_from k zero = ap (λ (j : ℕ). j ∷ []) (let e : k ≡ k + 0 = omega arith in e)
last_from k (suc count) =
    ap (λ (l : List ℕ). k ∷ l) (last_from (k + 1) count ∙ ap (λ (j : ℕ). numbers_from (k + 1) count ++ j ∷ []) (let e : k + 1 + count ≡ k + suc count = omega arith in e))

pub pushed_from : (before more : List ℕ) (k step next : ℕ) → next ≡ step + 1 → more ≡ (before ++ numbers_from k step) ++ (k + step) ∷ [] → more ≡ before ++ numbers_from k next
pushed_from before more k step next one is =
    is ∙ append_assoc before (numbers_from k step) ((k + step) ∷ [])
    ∙ ap (λ (l : List ℕ). before ++ l) (sym (last_from k step))
    ∙ ap (λ (j : ℕ). before ++ numbers_from k j) (let e : suc step ≡ next = omega (arith, one) in e)

-- ---- how many

many : (k count : ℕ) → length (numbers_from k count) ≡ count
many k zero = refl
many k (suc count) = ap suc (many (k + 1) count)

asked_many : (k others : ℕ) → length (asked_and_answered k others) ≡ 2 * others
asked_many k others =
    let one = many k others in
    let two = many (k + others) others in
    let both = length-append (numbers_from k others) (numbers_from (k + others) others) in
    omega (arith, one, two, both)

pub recoveries_are_short : RecoveriesAreShort
recoveries_are_short sent members index others =
    let first = asked_many (sent + members + 2) others in
    let last = asked_many (activate_number sent members others + 2) others in
    let both = length-append (asked_and_answered (sent + members + 2) others)
    (activate_number sent members others ∷ (activate_number sent members others + 1) ∷ asked_and_answered (activate_number sent members others + 2) others) in
    ((let e : length (recovery_messages sent members index others) ≡ 5 + 4 * others = omega (arith, first, last, both) in e), asked_many sent others)
