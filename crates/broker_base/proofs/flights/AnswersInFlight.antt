-- What PUBACK and PUBCOMP do to the entries is what they do to the queue (MQTT 4.3.2, 4.3.3).
use Rattle.std.proofs.Common.{◌≡◌, ℕ, zero, suc, Bool, true, false, not, ◌&&◌, ◌==◌, if◌then◌else◌, Some, None, List, [], ◌∷◌, ◌++◌, map, filter, refl, ap, ap₂, ◌∙◌, sym}
use Rattle.std.proofs.lemmas.List.Elements.{filter-append}
use Rattle.session_base.specs.Publication.{is_qos1}
use Rattle.session_base.specs.Queue.{awaited, awaits_puback, awaits_pubcomp, on_puback, on_pubcomp}
use Rattle.broker_spec.specs.Entries.{Entry}
use Rattle.broker_spec.specs.Readings.{released_at, released_below}
use Rattle.broker_spec.specs.Times.{at_puback, at_pubcomp}
use Rattle.broker_base.specs.ClientSession.{sent_flights, released_flight, flights_below}
use Rattle.broker_spec.proofs.WhatFlightsAwait.{filter_out, filter_map_is, awaits_puback_is, and_no, and_yes, awaits_no_pubcomp}

-- ---- PUBACK

pub sent_puback : (n i : ℕ) (es : List Entry) → sent_flights (map (at_puback n i) es) ≡ on_puback i (sent_flights es)
sent_puback n i [] = refl
sent_puback n i (Entry.Queued made p ∷ es) = sent_puback n i es
sent_puback n i (Entry.Sent made p id start ∷ es) =
    one ((i == id) && is_qos1 p.qos)
    ∙ ap (λ xs. if (i == id) && is_qos1 p.qos then xs else (id, awaited p) ∷ xs) (sent_puback n i es)
    ∙ sym (filter_out (awaits_puback i) (id, awaited p) (sent_flights es) ((i == id) && is_qos1 p.qos) (awaits_puback_is i id p))
  where
    one : (b : Bool) → sent_flights ((if b then Entry.Done made p id start None n else Entry.Sent made p id start) ∷ map (at_puback n i) es)
        ≡ (if b then sent_flights (map (at_puback n i) es) else (id, awaited p) ∷ sent_flights (map (at_puback n i) es))
    one true = refl
    one false = refl
sent_puback n i (Entry.Released made p id start release ∷ es) = sent_puback n i es
sent_puback n i (Entry.Done made p id start release finish ∷ es) = sent_puback n i es

released_at_puback : (t n i : ℕ) (es : List Entry) → released_at t (map (at_puback n i) es) ≡ released_at t es
released_at_puback t n i [] = refl
released_at_puback t n i (Entry.Queued made p ∷ es) = released_at_puback t n i es
released_at_puback t n i (Entry.Sent made p id start ∷ es) = one ((i == id) && is_qos1 p.qos) ∙ released_at_puback t n i es
  where
    one : (b : Bool) → released_at t ((if b then Entry.Done made p id start None n else Entry.Sent made p id start) ∷ map (at_puback n i) es)
        ≡ released_at t (map (at_puback n i) es)
    one true = refl
    one false = refl
released_at_puback t n i (Entry.Released made p id start release ∷ es) = ap (λ xs. if release == t then id ∷ xs else xs) (released_at_puback t n i es)
released_at_puback t n i (Entry.Done made p id start release finish ∷ es) = released_at_puback t n i es

pub released_puback : (t n i : ℕ) (es : List Entry) → released_below t (map (at_puback n i) es) ≡ released_below t es
released_puback zero n i es = refl
released_puback (suc t) n i es = ap₂ (λ xs ys. xs ++ ys) (released_puback t n i es) (released_at_puback t n i es)

-- a released entry waits for no PUBACK
pub puback_of_released : (i : ℕ) (ids : List ℕ) → on_puback i (map released_flight ids) ≡ map released_flight ids
puback_of_released i [] = refl
puback_of_released i (id ∷ ids) = rw (and_no (i == id), puback_of_released i ids) refl

pub flights_puback : (t n i : ℕ) (es : List Entry) → flights_below t (map (at_puback n i) es) ≡ on_puback i (flights_below t es)
flights_puback t n i es =
    ap₂ (λ xs ys. map released_flight xs ++ ys) (released_puback t n i es) (sent_puback n i es)
    ∙ ap (λ xs. xs ++ on_puback i (sent_flights es)) (sym (puback_of_released i (released_below t es)))
    ∙ sym (filter-append (λ flight. not (awaits_puback i flight)) (map released_flight (released_below t es)) (sent_flights es))

-- ---- PUBCOMP

pub sent_pubcomp : (n i : ℕ) (es : List Entry) → sent_flights (map (at_pubcomp n i) es) ≡ sent_flights es
sent_pubcomp n i [] = refl
sent_pubcomp n i (Entry.Queued made p ∷ es) = sent_pubcomp n i es
sent_pubcomp n i (Entry.Sent made p id start ∷ es) = ap (λ xs. (id, awaited p) ∷ xs) (sent_pubcomp n i es)
sent_pubcomp n i (Entry.Released made p id start release ∷ es) = one (i == id) ∙ sent_pubcomp n i es
  where
    one : (b : Bool) → sent_flights ((if b then Entry.Done made p id start (Some release) n else Entry.Released made p id start release) ∷ map (at_pubcomp n i) es)
        ≡ sent_flights (map (at_pubcomp n i) es)
    one true = refl
    one false = refl
sent_pubcomp n i (Entry.Done made p id start release finish ∷ es) = sent_pubcomp n i es

filter_if : (g : ℕ → Bool) (r : Bool) (id : ℕ) (xs : List ℕ) → filter g (if r then id ∷ xs else xs) ≡ (if r then filter g (id ∷ xs) else filter g xs)
filter_if g true id xs = refl
filter_if g false id xs = refl

released_at_pubcomp : (t n i : ℕ) (es : List Entry) → released_at t (map (at_pubcomp n i) es) ≡ filter (λ id. not (i == id)) (released_at t es)
released_at_pubcomp t n i [] = refl
released_at_pubcomp t n i (Entry.Queued made p ∷ es) = released_at_pubcomp t n i es
released_at_pubcomp t n i (Entry.Sent made p id start ∷ es) = released_at_pubcomp t n i es
released_at_pubcomp t n i (Entry.Released made p id start release ∷ es) =
    one (i == id) (release == t) refl
    ∙ ap (λ xs. if release == t then (if i == id then xs else id ∷ xs) else xs) (released_at_pubcomp t n i es)
    ∙ ap (λ xs. if release == t then xs else filter (λ other. not (i == other)) (released_at t es))
    (sym (filter_out (λ other. i == other) id (released_at t es) (i == id) refl))
    ∙ sym (filter_if (λ other. not (i == other)) (release == t) id (released_at t es))
  where
    one : (b r : Bool) → (release == t) ≡ r →
        released_at t ((if b then Entry.Done made p id start (Some release) n else Entry.Released made p id start release) ∷ map (at_pubcomp n i) es)
        ≡ (if r then (if b then released_at t (map (at_pubcomp n i) es) else id ∷ released_at t (map (at_pubcomp n i) es)) else released_at t (map (at_pubcomp n i) es))
    one true true e = refl
    one true false e = refl
    one false r e = rw e refl
released_at_pubcomp t n i (Entry.Done made p id start release finish ∷ es) = released_at_pubcomp t n i es

pub released_pubcomp : (t n i : ℕ) (es : List Entry) → released_below t (map (at_pubcomp n i) es) ≡ filter (λ id. not (i == id)) (released_below t es)
released_pubcomp zero n i es = refl
released_pubcomp (suc t) n i es =
    ap₂ (λ xs ys. xs ++ ys) (released_pubcomp t n i es) (released_at_pubcomp t n i es)
    ∙ sym (filter-append (λ id. not (i == id)) (released_below t es) (released_at t es))

-- a sent entry waits for no PUBCOMP
pub pubcomp_of_sent : (i : ℕ) (es : List Entry) → on_pubcomp i (sent_flights es) ≡ sent_flights es
pubcomp_of_sent i [] = refl
pubcomp_of_sent i (Entry.Queued made p ∷ es) = pubcomp_of_sent i es
pubcomp_of_sent i (Entry.Sent made p id start ∷ es) =
    filter_out (awaits_pubcomp i) (id, awaited p) (sent_flights es) false (awaits_no_pubcomp i id p) ∙ ap (λ xs. (id, awaited p) ∷ xs) (pubcomp_of_sent i es)
pubcomp_of_sent i (Entry.Released made p id start release ∷ es) = pubcomp_of_sent i es
pubcomp_of_sent i (Entry.Done made p id start release finish ∷ es) = pubcomp_of_sent i es

pub flights_pubcomp : (t n i : ℕ) (es : List Entry) → flights_below t (map (at_pubcomp n i) es) ≡ on_pubcomp i (flights_below t es)
flights_pubcomp t n i es =
    ap₂ (λ xs ys. map released_flight xs ++ ys) (released_pubcomp t n i es) (sent_pubcomp n i es ∙ sym (pubcomp_of_sent i es))
    ∙ ap (λ xs. xs ++ on_pubcomp i (sent_flights es))
    (sym (filter_map_is released_flight (λ flight. not (awaits_pubcomp i flight)) (λ id. not (i == id)) (λ id. ap not (and_yes (i == id))) (released_below t es)))
    ∙ sym (filter-append (λ flight. not (awaits_pubcomp i flight)) (map released_flight (released_below t es)) (sent_flights es))
