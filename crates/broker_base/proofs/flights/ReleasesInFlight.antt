-- What a PUBREC does to the sent and the released entries (MQTT 4.3.3).
use Rattle.std.proofs.Common.{◌≡◌, ℕ, ◌<◌, ◌≤◌, zero, suc, Bool, true, false, not, ◌&&◌, ◌==◌, if◌then◌else◌, List, [], ◌∷◌, ◌++◌, map, filter, refl, ap, ap₂, ◌∙◌, sym, arith}
use Rattle.session_base.specs.Publication.{is_qos1}
use Rattle.session_base.specs.Queue.{awaited, awaits_pubrec, ids_of}
use Rattle.session_base.proofs.PubrecAlone.{ids_if}
use Rattle.broker_spec.specs.Entries.{Entry}
use Rattle.broker_spec.specs.Readings.{released_at, released_below}
use Rattle.broker_spec.specs.Times.{at_pubrec}
use Rattle.broker_base.specs.ClientSession.{sent_flights, released_flight, flights_below}
use Rattle.broker_spec.proofs.SoundEntries.{IsBelow}
use Rattle.broker_base.proofs.flights.IdentifiersInFlight.{append_none}
use Rattle.broker_spec.proofs.WhatFlightsAwait.{filter_out, awaits_pubrec_is}

other_place : (release n : ℕ) → release < n → (release == n) ≡ false
other_place release n h = grind arith

later_place : (n t : ℕ) → t < n → (n == t) ≡ false
later_place n t h = grind arith

same_place : (n : ℕ) → (n == n) ≡ true
same_place n = grind arith

-- ---- the sent ones

pub sent_pubrec : (n i : ℕ) (es : List Entry) → sent_flights (map (at_pubrec n i) es) ≡ filter (λ flight. not (awaits_pubrec i flight)) (sent_flights es)
sent_pubrec n i [] = refl
sent_pubrec n i (Entry.Queued made p ∷ es) = sent_pubrec n i es
sent_pubrec n i (Entry.Sent made p id start ∷ es) =
    one ((i == id) && not (is_qos1 p.qos))
    ∙ ap (λ xs. if (i == id) && not (is_qos1 p.qos) then xs else (id, awaited p) ∷ xs) (sent_pubrec n i es)
    ∙ sym (filter_out (awaits_pubrec i) (id, awaited p) (sent_flights es) ((i == id) && not (is_qos1 p.qos)) (awaits_pubrec_is i id p))
  where
    one : (b : Bool) → sent_flights ((if b then Entry.Released made p id start n else Entry.Sent made p id start) ∷ map (at_pubrec n i) es)
        ≡ (if b then sent_flights (map (at_pubrec n i) es) else (id, awaited p) ∷ sent_flights (map (at_pubrec n i) es))
    one true = refl
    one false = refl
sent_pubrec n i (Entry.Released made p id start release ∷ es) = sent_pubrec n i es
sent_pubrec n i (Entry.Done made p id start release finish ∷ es) = sent_pubrec n i es

-- ---- the released ones

-- nothing is released at n, if all places are below
pub none_released : (n : ℕ) (es : List Entry) → IsBelow n es → released_at n es ≡ []
none_released n [] h = refl
none_released n (Entry.Queued made p ∷ es) h = none_released n es h.1
none_released n (Entry.Sent made p id start ∷ es) h = none_released n es h.2
none_released n (Entry.Released made p id start release ∷ es) h = rw (other_place release n h.2, none_released n es h.3) refl
none_released n (Entry.Done made p id start release finish ∷ es) h = none_released n es h.1

pub released_more : (n : ℕ) (es : List Entry) → IsBelow n es → released_below (suc n) es ≡ released_below n es
released_more n es h = ap (λ ids. released_below n es ++ ids) (none_released n es h) ∙ append_none (released_below n es)

pub flights_more : (n : ℕ) (es : List Entry) → IsBelow n es → flights_below (suc n) es ≡ flights_below n es
flights_more n es h = ap (λ ids. map released_flight ids ++ sent_flights es) (released_more n es h)

released_at_before : (t n i : ℕ) (es : List Entry) → t < n → released_at t (map (at_pubrec n i) es) ≡ released_at t es
released_at_before t n i [] h = refl
released_at_before t n i (Entry.Queued made p ∷ es) h = released_at_before t n i es h
released_at_before t n i (Entry.Sent made p id start ∷ es) h = one ((i == id) && not (is_qos1 p.qos)) ∙ released_at_before t n i es h
  where
    one : (b : Bool) → released_at t ((if b then Entry.Released made p id start n else Entry.Sent made p id start) ∷ map (at_pubrec n i) es)
        ≡ released_at t (map (at_pubrec n i) es)
    one true = rw (later_place n t h) refl
    one false = refl
released_at_before t n i (Entry.Released made p id start release ∷ es) h = ap (λ xs. if release == t then id ∷ xs else xs) (released_at_before t n i es h)
released_at_before t n i (Entry.Done made p id start release finish ∷ es) h = released_at_before t n i es h

pub released_before : (t n i : ℕ) (es : List Entry) → t ≤ n → released_below t (map (at_pubrec n i) es) ≡ released_below t es
released_before zero n i es h = refl
released_before (suc t) n i es h =
    ap₂ (λ xs ys. xs ++ ys) (released_before t n i es (omega (arith, h))) (released_at_before t n i es (omega (arith, h)))

pub released_now : (n i : ℕ) (es : List Entry) → IsBelow n es → released_at n (map (at_pubrec n i) es) ≡ ids_of (filter (awaits_pubrec i) (sent_flights es))
released_now n i [] h = refl
released_now n i (Entry.Queued made p ∷ es) h = released_now n i es h.1
released_now n i (Entry.Sent made p id start ∷ es) h =
    one ((i == id) && not (is_qos1 p.qos))
    ∙ ap (λ xs. if (i == id) && not (is_qos1 p.qos) then id ∷ xs else xs) (released_now n i es h.2)
    ∙ sym (ids_if ((i == id) && not (is_qos1 p.qos)) i (id, awaited p) (sent_flights es) (awaits_pubrec_is i id p))
  where
    one : (b : Bool) → released_at n ((if b then Entry.Released made p id start n else Entry.Sent made p id start) ∷ map (at_pubrec n i) es)
        ≡ (if b then id ∷ released_at n (map (at_pubrec n i) es) else released_at n (map (at_pubrec n i) es))
    one true = rw (same_place n) refl
    one false = refl
released_now n i (Entry.Released made p id start release ∷ es) h = rw (other_place release n h.2) (released_now n i es h.3)
released_now n i (Entry.Done made p id start release finish ∷ es) h = released_now n i es h.1
