-- The identifiers in flight are those of the entries in flight, each as often.
use Rattle.std.proofs.Common.{◌≡◌, ℕ, ◌+◌, ◌<◌, zero, suc, Bool, true, false, ◌&&◌, ◌==◌, nat_lt, if◌then◌else◌, List, [], ◌∷◌, ◌++◌, map, refl, ap, ap₂, ◌∙◌, sym, arith}
use Rattle.std.proofs.lemmas.List.{map-append}
use Rattle.session_base.specs.declared.publication.Publication.{Publication}
use Rattle.session_base.specs.Queue.{Flight, ids_of}
use Rattle.broker_spec.specs.Entries.{Entry}
use Rattle.broker_spec.specs.Readings.{released_at, released_below, busy_ids}
use Rattle.broker_base.specs.ClientSession.{sent_flights, released_flight, flights_below}
use Rattle.session_base.proofs.CountedIdentifiers.{one_if, count, count-append, SameIds}
use Rattle.broker_spec.proofs.SoundEntries.{IsBelow}

pub append_none : {A : Type 0} (xs : List A) → xs ++ [] ≡ xs
append_none [] = refl
append_none (x ∷ xs) = ap (λ ys. x ∷ ys) (append_none xs)

-- ---- the identifiers in flight are those of the unfinished entries that started

one_more : (release n : ℕ) → one_if (nat_lt release (suc n)) ≡ one_if (nat_lt release n) + one_if (release == n)
one_more release n = grind arith

none_yet : (release : ℕ) → one_if (nat_lt release 0) ≡ 0
none_yet release = grind arith

all_now : (release n : ℕ) → release < n → one_if (nat_lt release n) ≡ 1
all_now release n h = grind arith

released_first : (n : ℕ) (test : ℕ → Bool) (made : ℕ) (p : Publication) (id start release : ℕ) (es : List Entry) →
    count test (released_below n (Entry.Released made p id start release ∷ es)) ≡ one_if (nat_lt release n && test id) + count test (released_below n es)
released_first zero test made p id start release es = one (nat_lt release 0) (none_yet release)
  where
    one : (b : Bool) → one_if b ≡ 0 → 0 ≡ one_if (b && test id) + 0
    one true e = absurd (omega (arith, e))
    one false e = omega arith
released_first (suc n) test made p id start release es =
    count-append test (released_below n (Entry.Released made p id start release ∷ es)) (if release == n then id ∷ released_at n es else released_at n es)
    ∙ ap (λ k. k + count test (if release == n then id ∷ released_at n es else released_at n es)) (released_first n test made p id start release es)
    ∙ sums (nat_lt release (suc n)) (nat_lt release n) (release == n) (one_more release n)
    ∙ ap (λ k. one_if (nat_lt release (suc n) && test id) + k) (sym (count-append test (released_below n es) (released_at n es)))
  where
    sums : (more before now : Bool) → one_if more ≡ one_if before + one_if now →
        one_if (before && test id) + count test (released_below n es) + count test (if now then id ∷ released_at n es else released_at n es)
        ≡ one_if (more && test id) + (count test (released_below n es) + count test (released_at n es))
    sums true true true e = absurd (omega (arith, e))
    sums true true false e = omega arith
    sums true false true e = omega arith
    sums true false false e = absurd (omega (arith, e))
    sums false true now e = absurd (omega (arith, e))
    sums false false true e = absurd (omega (arith, e))
    sums false false false e = omega arith

same_first : (n : ℕ) (e : Entry) (es : List Entry) → ((t : ℕ) → released_at t (e ∷ es) ≡ released_at t es) → released_below n (e ∷ es) ≡ released_below n es
same_first zero e es h = refl
same_first (suc n) e es h = ap₂ (λ xs ys. xs ++ ys) (same_first n e es h) (h n)

count_in_flight : (n : ℕ) (test : ℕ → Bool) (es : List Entry) → IsBelow n es →
    count test (released_below n es) + count test (ids_of (sent_flights es)) ≡ count test (busy_ids es)
count_in_flight n test [] h = omega (arith, none n)
  where
    none : (k : ℕ) → count test (released_below k []) ≡ 0
    none zero = refl
    none (suc k) = ap (count test) (append_none (released_below k [])) ∙ none k
count_in_flight n test (Entry.Queued made p ∷ es) h =
    ap (λ ids. count test ids + count test (ids_of (sent_flights es))) (same_first n (Entry.Queued made p) es (λ t. refl)) ∙ count_in_flight n test es h.1
count_in_flight n test (Entry.Sent made p id start ∷ es) h =
    omega (arith, ap (count test) (same_first n (Entry.Sent made p id start) es (λ t. refl)), count_in_flight n test es h.2)
count_in_flight n test (Entry.Released made p id start release ∷ es) h =
    omega (arith, released_first n test made p id start release es, count_in_flight n test es h.3, one (nat_lt release n) (all_now release n h.2))
  where
    one : (b : Bool) → one_if b ≡ 1 → one_if (b && test id) ≡ one_if (test id)
    one true e = refl
    one false e = absurd (omega (arith, e))
count_in_flight n test (Entry.Done made p id start release finish ∷ es) h =
    ap (λ ids. count test ids + count test (ids_of (sent_flights es))) (same_first n (Entry.Done made p id start release finish) es (λ t. refl)) ∙ count_in_flight n test es h.1

ids_released : (ids : List ℕ) → ids_of (map released_flight ids) ≡ ids
ids_released [] = refl
ids_released (id ∷ ids) = ap (λ xs. id ∷ xs) (ids_released ids)

pub same_ids : (n : ℕ) (es : List Entry) → IsBelow n es → SameIds (ids_of (flights_below n es)) (busy_ids es)
same_ids n es h test =
    ap (count test) (map-append (λ (flight : Flight). flight.0) (map released_flight (released_below n es)) (sent_flights es)
    ∙ ap (λ ids. ids ++ ids_of (sent_flights es)) (ids_released (released_below n es)))
    ∙ count-append test (released_below n es) (ids_of (sent_flights es))
    ∙ count_in_flight n test es h
