-- The client's answers keep the identifiers in flight apart, and PUBREC keeps how many there are.
use Rattle.std.proofs.Common.{◌≡◌, ℕ, ◌+◌, ◌≤◌, Bool, true, false, not, ◌&&◌, ◌==◌, if◌then◌else◌, List, [], ◌∷◌, length, filter, refl, ap, ◌∙◌, sym, subst, arith}
use Rattle.std.proofs.lemmas.List.{map-append, length-map}
use Rattle.session_base.specs.declared.awaits.Awaits.TheVariants as waits_for
use Rattle.lists.specs.Lists.{has_id, IsDistinct}
use Rattle.session_base.specs.Queue.{Flight, is_released, awaits_puback, awaits_pubrec, awaits_pubcomp, released_with, on_pubrec, ids_of}
use Rattle.session_base.specs.OrderTheorems.{AnswersKeepApart}
use Rattle.session_base.proofs.CountedIdentifiers.{one_if, count, count-append, SameIds, same_length, not_counted, not_among}
use Rattle.session_base.proofs.PubrecAlone.{Found, find}

-- ---- distinct, by counts

-- each identifier at most once
abbrev pub AtMostOnce : List ℕ → Type 0
AtMostOnce ids = (id : ℕ) → count (λ other. id == other) ids ≤ 1

same_number : (i j : ℕ) → (i == j) ≡ true → i ≡ j
same_number i j e = grind arith

pub once : (ids : List ℕ) → IsDistinct ids → AtMostOnce ids
once [] h i = omega arith
once (id ∷ ids) h i =
    elim (i == id) as (λ (b : Bool). (i == id) ≡ b → one_if b + count (λ other. i == other) ids ≤ 1) [
      | true ↦ λ e. let none : count (λ other. i == other) ids ≡ 0 = not_counted i ids (ap (λ j. has_id j ids) (same_number i id e) ∙ h.0) in omega (arith, none)
      | false ↦ λ e. let k = once ids h.1 i in omega (arith, k)
    ] refl

pub distinct : (ids : List ℕ) → AtMostOnce ids → IsDistinct ids
distinct [] h = tt
distinct (id ∷ ids) h = (not_among id ids (none (id == id) (grind arith) (h id)), distinct ids (λ i. fewer i (i == id) (h i)))
  where
    none : (b : Bool) → b ≡ true → one_if b + count (λ other. id == other) ids ≤ 1 → count (λ other. id == other) ids ≡ 0
    none true e k = omega (arith, k)
    none false e k = absurd (cc)

    fewer : (i : ℕ) (b : Bool) → one_if b + count (λ other. i == other) ids ≤ 1 → count (λ other. i == other) ids ≤ 1
    fewer i true k = omega (arith, k)
    fewer i false k = omega (arith, k)

-- ---- filters

pub count_fewer : (test : ℕ → Bool) (p : Flight → Bool) (fs : List Flight) → count test (ids_of (filter p fs)) ≤ count test (ids_of fs)
count_fewer test p [] = omega arith
count_fewer test p (flight ∷ fs) =
    elim (p flight) as (λ (b : Bool). count test (ids_of (if b then flight ∷ filter p fs else filter p fs)) ≤ one_if (test flight.0) + count test (ids_of fs)) [
      | true ↦ let k = count_fewer test p fs in omega (arith, k)
      | false ↦ let k = count_fewer test p fs in omega (arith, k)
    ]

filter_apart : (p : Flight → Bool) (fs : List Flight) → IsDistinct (ids_of fs) → IsDistinct (ids_of (filter p fs))
filter_apart p fs h = distinct (ids_of (filter p fs)) (λ i. let a = count_fewer (λ id. i == id) p fs in let b = once (ids_of fs) h i in omega (arith, a, b))

-- ---- PUBREC

and_no : (b : Bool) → (b && false) ≡ false
and_no true = refl
and_no false = refl

-- each entry is released, or waits for this PUBREC, or neither
three_ways : (test : ℕ → Bool) (i : ℕ) (fs : List Flight) →
    count test (ids_of fs)
    ≡ count test (ids_of (filter is_released fs)) + (count test (ids_of (filter (awaits_pubrec i) fs))
    + count test (ids_of (filter (λ flight. not (is_released flight) && not (awaits_pubrec i flight)) fs)))
three_ways test i [] = refl
three_ways test i ((id, waits_for.Puback p) ∷ fs) = rw (and_no (i == id)) (let k = three_ways test i fs in omega (arith, k))
three_ways test i ((id, waits_for.Pubcomp) ∷ fs) = rw (and_no (i == id)) (let k = three_ways test i fs in omega (arith, k))
three_ways test i ((id, waits_for.Pubrec p) ∷ fs) =
    elim (i == id) as (λ (b : Bool). one_if (test id) + count test (ids_of fs)
    ≡ count test (ids_of (filter is_released fs)) + (count test (ids_of (if b && true then (id, waits_for.Pubrec p) ∷ filter (awaits_pubrec i) fs else filter (awaits_pubrec i) fs))
    + count test (ids_of (if not (b && true) then (id, waits_for.Pubrec p) ∷ filter (λ flight. not (is_released flight) && not (awaits_pubrec i flight)) fs
    else filter (λ flight. not (is_released flight) && not (awaits_pubrec i flight)) fs)))) [
      | true ↦ let k = three_ways test i fs in omega (arith, k)
      | false ↦ let k = three_ways test i fs in omega (arith, k)
    ]

same_released : (i : ℕ) (fs : List Flight) → ids_of (filter (awaits_pubrec i) fs) ≡ i ∷ [] → SameIds (ids_of (released_with i fs)) (ids_of fs)
same_released i fs alone test =
    ap (count test) (map-append (λ (flight : Flight). flight.0) (filter is_released fs) ((i, waits_for.Pubcomp) ∷ filter (λ flight. not (is_released flight) && not (awaits_pubrec i flight)) fs))
    ∙ count-append test (ids_of (filter is_released fs)) (i ∷ ids_of (filter (λ flight. not (is_released flight) && not (awaits_pubrec i flight)) fs))
    ∙ (let k = three_ways test i fs in let a : count test (ids_of (filter (awaits_pubrec i) fs)) ≡ one_if (test i) + 0 = ap (count test) alone in omega (arith, k, a))

pub pubrec_same : (i : ℕ) (fs : List Flight) → IsDistinct (ids_of fs) → SameIds (ids_of (on_pubrec i fs)) (ids_of fs)
pubrec_same i fs h = by (find i fs (once (ids_of fs) h i))
  where
    by : Found i fs → SameIds (ids_of (on_pubrec i fs)) (ids_of fs)
    by (Found.Nothing none any) test = ap (λ b. count test (ids_of (if b then released_with i fs else fs))) any
    by (Found.JustOne alone any) test = ap (λ b. count test (ids_of (if b then released_with i fs else fs))) any ∙ same_released i fs alone test

pub pubrec_length : (i : ℕ) (fs : List Flight) → IsDistinct (ids_of fs) → length (on_pubrec i fs) ≡ length fs
pubrec_length i fs h =
    sym (length-map (on_pubrec i fs) (λ (flight : Flight). flight.0))
    ∙ same_length (ids_of (on_pubrec i fs)) (ids_of fs) (pubrec_same i fs h) ∙ length-map fs (λ (flight : Flight). flight.0)

pubrec_apart : (i : ℕ) (fs : List Flight) → IsDistinct (ids_of fs) → IsDistinct (ids_of (on_pubrec i fs))
pubrec_apart i fs h =
    distinct (ids_of (on_pubrec i fs)) (λ id. subst (λ (n : ℕ). n ≤ 1) (sym (pubrec_same i fs h (λ other. id == other))) (once (ids_of fs) h id))

pub answers_keep_apart : AnswersKeepApart
answers_keep_apart id fs h = (
  filter_apart (λ flight. not (awaits_puback id flight)) fs h,
  pubrec_apart id fs h,
  filter_apart (λ flight. not (awaits_pubcomp id flight)) fs h,
  pubrec_length id fs h,
)
