-- What PUBREC does to the entries is what it does to the queue: the entry comes after those
-- released before (MQTT 4.3.3).
use Rattle.std.proofs.Common.{◌≡◌, ℕ, ◌≤◌, suc, Bool, true, false, not, ◌&&◌, ◌||◌, ◌==◌, if◌then◌else◌, List, [], ◌∷◌, ◌++◌, map, filter, refl, ap, ap₂, ◌∙◌, sym, arith}
use Rattle.std.specs.List.{list_any}
use Rattle.std.proofs.lemmas.List.{map-append, append_assoc}
use Rattle.std.proofs.lemmas.List.Elements.{filter-append}
use Rattle.std.proofs.lemmas.List.Folds.{list_any-append}
use Rattle.session_base.specs.declared.awaits.Awaits.TheVariants as waits_for
use Rattle.session_base.specs.Queue.{awaits_pubrec, is_released, ids_of, released_with, on_pubrec}
use Rattle.broker_spec.specs.Entries.{Entry}
use Rattle.broker_spec.specs.Readings.{released_below, busy_ids}
use Rattle.broker_spec.specs.Times.{at_pubrec}
use Rattle.broker_base.specs.ClientSession.{sent_flights, released_flight, flights_below}
use Rattle.session_base.proofs.CountedIdentifiers.{count}
use Rattle.session_base.proofs.PubrecAlone.{Found, find}
use Rattle.broker_spec.proofs.SoundEntries.{Sound}
use Rattle.broker_base.proofs.flights.IdentifiersInFlight.{append_none}
use Rattle.broker_spec.proofs.WhatFlightsAwait.{not_released}
use Rattle.broker_base.proofs.flights.ReleasesInFlight.{sent_pubrec, released_before, released_now}

-- ---- the queue

no_filter : {A : Type 0} (p : A → Bool) (q : A → Bool) (xs : List A) → filter p xs ≡ [] → filter (λ x. not (p x)) xs ≡ xs
no_filter p q [] e = refl
no_filter p q (x ∷ xs) e =
    elim (p x) as (λ (b : Bool). (if b then x ∷ filter p xs else filter p xs) ≡ [] → (if not b then x ∷ filter (λ y. not (p y)) xs else filter (λ y. not (p y)) xs) ≡ x ∷ xs) [
      | true ↦ λ e. absurd (cc)
      | false ↦ λ e. ap (λ ys. x ∷ ys) (no_filter p q xs e)
    ] e

pub released_all : (ids : List ℕ) → filter is_released (map released_flight ids) ≡ map released_flight ids
released_all [] = refl
released_all (id ∷ ids) = ap (λ xs. released_flight id ∷ xs) (released_all ids)

pub released_of_sent : (es : List Entry) → filter is_released (sent_flights es) ≡ []
released_of_sent [] = refl
released_of_sent (Entry.Queued made p ∷ es) = released_of_sent es
released_of_sent (Entry.Sent made p id start ∷ es) = rw (not_released p) (released_of_sent es)
released_of_sent (Entry.Released made p id start release ∷ es) = released_of_sent es
released_of_sent (Entry.Done made p id start release finish ∷ es) = released_of_sent es

others_of_released : (i : ℕ) (ids : List ℕ) → filter (λ flight. not (is_released flight) && not (awaits_pubrec i flight)) (map released_flight ids) ≡ []
others_of_released i [] = refl
others_of_released i (id ∷ ids) = others_of_released i ids

others_of_sent : (i : ℕ) (es : List Entry) →
    filter (λ flight. not (is_released flight) && not (awaits_pubrec i flight)) (sent_flights es) ≡ filter (λ flight. not (awaits_pubrec i flight)) (sent_flights es)
others_of_sent i [] = refl
others_of_sent i (Entry.Queued made p ∷ es) = others_of_sent i es
others_of_sent i (Entry.Sent made p id start ∷ es) = rw (not_released p, others_of_sent i es) refl
others_of_sent i (Entry.Released made p id start release ∷ es) = others_of_sent i es
others_of_sent i (Entry.Done made p id start release finish ∷ es) = others_of_sent i es

none_of_released : (i : ℕ) (ids : List ℕ) → list_any (awaits_pubrec i) (map released_flight ids) ≡ false
none_of_released i [] = refl
none_of_released i (id ∷ ids) = ap (λ b. b || list_any (awaits_pubrec i) (map released_flight ids)) (no (i == id)) ∙ none_of_released i ids
  where
    no : (b : Bool) → (b && false) ≡ false
    no true = refl
    no false = refl

any_in_flight : (t i : ℕ) (es : List Entry) → list_any (awaits_pubrec i) (flights_below t es) ≡ list_any (awaits_pubrec i) (sent_flights es)
any_in_flight t i es =
    list_any-append (awaits_pubrec i) (map released_flight (released_below t es)) (sent_flights es)
    ∙ ap (λ b. b || list_any (awaits_pubrec i) (sent_flights es)) (none_of_released i (released_below t es))

released_with_is : (t i : ℕ) (es : List Entry) → released_with i (flights_below t es)
    ≡ map released_flight (released_below t es) ++ (i, waits_for.Pubcomp) ∷ filter (λ flight. not (awaits_pubrec i flight)) (sent_flights es)
released_with_is t i es =
    ap₂ (λ xs ys. xs ++ (i, waits_for.Pubcomp) ∷ ys)
    (filter-append is_released (map released_flight (released_below t es)) (sent_flights es)
    ∙ ap₂ (λ xs ys. xs ++ ys) (released_all (released_below t es)) (released_of_sent es) ∙ append_none (map released_flight (released_below t es)))
    (filter-append (λ flight. not (is_released flight) && not (awaits_pubrec i flight)) (map released_flight (released_below t es)) (sent_flights es)
    ∙ ap₂ (λ xs ys. xs ++ ys) (others_of_released i (released_below t es)) (others_of_sent i es))

count_sent : (test : ℕ → Bool) (es : List Entry) → count test (ids_of (sent_flights es)) ≤ count test (busy_ids es)
count_sent test [] = omega arith
count_sent test (Entry.Queued made p ∷ es) = count_sent test es
count_sent test (Entry.Sent made p id start ∷ es) = omega (arith, count_sent test es)
count_sent test (Entry.Released made p id start release ∷ es) = omega (arith, count_sent test es)
count_sent test (Entry.Done made p id start release finish ∷ es) = count_sent test es

pub flights_pubrec : (n i : ℕ) (es : List Entry) → Sound n es → flights_below (suc n) (map (at_pubrec n i) es) ≡ on_pubrec i (flights_below n es)
flights_pubrec n i es s =
    ap₂ (λ xs ys. map released_flight xs ++ ys)
    (ap₂ (λ xs ys. xs ++ ys) (released_before n n i es (omega arith)) (released_now n i es s.below)) (sent_pubrec n i es)
    ∙ by (find i (sent_flights es) (omega (arith, count_sent (λ id. i == id) es, s.unique i)))
  where
    by : Found i (sent_flights es) →
        map released_flight (released_below n es ++ ids_of (filter (awaits_pubrec i) (sent_flights es))) ++ filter (λ flight. not (awaits_pubrec i flight)) (sent_flights es)
        ≡ on_pubrec i (flights_below n es)
    by (Found.Nothing a b) =
        ap₂ (λ xs ys. map released_flight xs ++ ys) (ap (λ xs. released_below n es ++ ids_of xs) a ∙ append_none (released_below n es))
        (no_filter (awaits_pubrec i) (awaits_pubrec i) (sent_flights es) a)
        ∙ sym (ap (λ b. if b then released_with i (flights_below n es) else flights_below n es) (any_in_flight n i es ∙ b))
    by (Found.JustOne a b) =
        ap (λ xs. map released_flight (released_below n es ++ xs) ++ filter (λ flight. not (awaits_pubrec i flight)) (sent_flights es)) a
        ∙ ap (λ xs. xs ++ filter (λ flight. not (awaits_pubrec i flight)) (sent_flights es)) (map-append released_flight (released_below n es) (i ∷ []))
        ∙ append_assoc (map released_flight (released_below n es)) ((i, waits_for.Pubcomp) ∷ []) (filter (λ flight. not (awaits_pubrec i flight)) (sent_flights es))
        ∙ sym (released_with_is n i es)
        ∙ sym (ap (λ b. if b then released_with i (flights_below n es) else flights_below n es) (any_in_flight n i es ∙ b))
