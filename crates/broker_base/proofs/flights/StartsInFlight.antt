-- The entries that start are those that a fill of the queue takes (MQTT 4.6).
use Rattle.std.proofs.Common.{◌≡◌, ℕ, ◌+◌, zero, suc, Bool, true, false, ◌==◌, nat_lt, if◌then◌else◌, Option, Some, None, List, [], ◌∷◌, ◌++◌, length, map, refl, ap, ap₂, ◌∙◌, sym, arith}
use Rattle.std.proofs.lemmas.List.{map-append, append_assoc, length-map}
use Rattle.session_base.specs.declared.publication.Publication.{Publication}
use Rattle.session_base.specs.Identifiers.{least_free}
use Rattle.session_base.specs.Queue.{Flight, awaited, ids_of, started_flight, fill}
use Rattle.broker_spec.specs.Connection.{ConnectionName}
use Rattle.broker_spec.specs.Entries.{Entry}
use Rattle.broker_spec.specs.Readings.{released_at, released_below, waiting_of, busy_ids}
use Rattle.broker_spec.specs.Times.{start_all, started}
use Rattle.broker_base.specs.ClientSession.{sent_flights, released_flight, flights_below, queue_of}
use Rattle.broker_base.specs.SessionStep.{filled_on}
use Rattle.session_base.proofs.CountedIdentifiers.{one_if, count, count-append, SameIds, same_length, same_least}
use Rattle.broker_spec.proofs.SoundEntries.{IsBelow, AllWait, InOrder}
use Rattle.broker_spec.proofs.SoundStarts.{busy_waits}
use Rattle.broker_base.proofs.flights.IdentifiersInFlight.{append_none, same_ids}

-- ---- what starts

-- what of the entries starts now, in flight
abbrev pub newly : ℕ → ℕ → List ℕ → List Entry → List Flight
newly w n ids [] = []
newly w n ids (Entry.Queued made p ∷ es) = sent_flights (start_all w n ids (Entry.Queued made p ∷ es))
newly w n ids (Entry.Sent made p id start ∷ es) = newly w n (id ∷ ids) es
newly w n ids (Entry.Released made p id start release ∷ es) = newly w n (id ∷ ids) es
newly w n ids (Entry.Done made p id start release finish ∷ es) = newly w n ids es

sent_of_waits : (es : List Entry) → AllWait es → sent_flights es ≡ []
sent_of_waits [] h = refl
sent_of_waits (Entry.Queued made p ∷ es) h = sent_of_waits es h
sent_of_waits (Entry.Sent made p id start ∷ es) h = absurd h
sent_of_waits (Entry.Released made p id start release ∷ es) h = absurd h
sent_of_waits (Entry.Done made p id start release finish ∷ es) h = absurd h

pub sent_started : (w n : ℕ) (ids : List ℕ) (es : List Entry) → InOrder es → sent_flights (start_all w n ids es) ≡ sent_flights es ++ newly w n ids es
sent_started w n ids [] h = refl
sent_started w n ids (Entry.Queued made p ∷ es) h =
    ap (λ fs. fs ++ newly w n ids (Entry.Queued made p ∷ es)) (sym (sent_of_waits es h))
sent_started w n ids (Entry.Sent made p id start ∷ es) h = ap (λ fs. (id, awaited p) ∷ fs) (sent_started w n (id ∷ ids) es h)
sent_started w n ids (Entry.Released made p id start release ∷ es) h = sent_started w n (id ∷ ids) es h
sent_started w n ids (Entry.Done made p id start release finish ∷ es) h = sent_started w n ids es h

released_at_started : (t w n : ℕ) (ids : List ℕ) (es : List Entry) → released_at t (start_all w n ids es) ≡ released_at t es
released_at_started t w n ids [] = refl
released_at_started t w n ids (Entry.Queued made p ∷ es) =
    elim (nat_lt (length ids) w) as (λ (b : Bool). released_at t (if b then Entry.Sent made p (least_free ids) n ∷ start_all w n (least_free ids ∷ ids) es else Entry.Queued made p ∷ es) ≡ released_at t es) [
      | true ↦ released_at_started t w n (least_free ids ∷ ids) es
      | false ↦ refl
    ]
released_at_started t w n ids (Entry.Sent made p id start ∷ es) = released_at_started t w n (id ∷ ids) es
released_at_started t w n ids (Entry.Released made p id start release ∷ es) = ap (λ xs. if release == t then id ∷ xs else xs) (released_at_started t w n (id ∷ ids) es)
released_at_started t w n ids (Entry.Done made p id start release finish ∷ es) = released_at_started t w n ids es

pub released_started : (t w n : ℕ) (ids : List ℕ) (es : List Entry) → released_below t (start_all w n ids es) ≡ released_below t es
released_started zero w n ids es = refl
released_started (suc t) w n ids es = ap₂ (λ xs ys. xs ++ ys) (released_started t w n ids es) (released_at_started t w n ids es)

pub same_next : (fs : List Flight) (ids : List ℕ) (p : Publication) → SameIds (ids_of fs) ids → SameIds (ids_of (fs ++ started_flight fs p ∷ [])) (least_free ids ∷ ids)
same_next fs ids p same test =
    ap (count test) (map-append (λ (flight : Flight). flight.0) fs (started_flight fs p ∷ []))
    ∙ count-append test (ids_of fs) (least_free (ids_of fs) ∷ [])
    ∙ sums (least_free (ids_of fs)) (same_least (ids_of fs) ids same)
  where
    sums : (id : ℕ) → id ≡ least_free ids → count test (ids_of fs) + (one_if (test id) + 0) ≡ one_if (test (least_free ids)) + count test ids
    sums id e = omega (arith, same test, ap (λ i. one_if (test i)) e)

pub fill_waits : (w n : ℕ) (ids : List ℕ) (fs : List Flight) (es : List Entry) → AllWait es → SameIds (ids_of fs) ids →
    fill w fs (waiting_of es) ≡ record { in_flight = fs ++ sent_flights (start_all w n ids es); waiting = waiting_of (start_all w n ids es) }
fill_waits w n ids fs [] h same = ap (λ xs. record { in_flight = xs; waiting = [] }) (sym (append_none fs))
fill_waits w n ids fs (Entry.Queued made p ∷ es) h same =
    ap (λ k. if nat_lt k w then fill w (fs ++ started_flight fs p ∷ []) (waiting_of es) else record { in_flight = fs; waiting = p ∷ waiting_of es })
    (sym (length-map fs (λ (flight : Flight). flight.0)) ∙ same_length (ids_of fs) ids same)
    ∙ by (nat_lt (length ids) w) (fill_waits w n (least_free ids ∷ ids) (fs ++ started_flight fs p ∷ []) es h (same_next fs ids p same))
  where
    by : (b : Bool) →
        fill w (fs ++ started_flight fs p ∷ []) (waiting_of es) ≡ record { in_flight = (fs ++ started_flight fs p ∷ []) ++ sent_flights (start_all w n (least_free ids ∷ ids) es); waiting = waiting_of (start_all w n (least_free ids ∷ ids) es) } →
        (if b then fill w (fs ++ started_flight fs p ∷ []) (waiting_of es) else record { in_flight = fs; waiting = p ∷ waiting_of es })
        ≡ record {
          in_flight = fs ++ sent_flights (if b then Entry.Sent made p (least_free ids) n ∷ start_all w n (least_free ids ∷ ids) es else Entry.Queued made p ∷ es);
          waiting = waiting_of (if b then Entry.Sent made p (least_free ids) n ∷ start_all w n (least_free ids ∷ ids) es else Entry.Queued made p ∷ es);
        }
    by true e = e ∙ ap (λ xs. record { in_flight = xs; waiting = waiting_of (start_all w n (least_free ids ∷ ids) es) })
        (append_assoc fs (started_flight fs p ∷ []) (sent_flights (start_all w n (least_free ids ∷ ids) es))
        ∙ ap (λ id. fs ++ (id, awaited p) ∷ sent_flights (start_all w n (least_free ids ∷ ids) es)) (same_least (ids_of fs) ids same))
    by false e = ap (λ xs. record { in_flight = xs; waiting = p ∷ waiting_of es }) (sym (append_none fs) ∙ ap (λ xs. fs ++ xs) (sym (sent_of_waits es h)))
fill_waits w n ids fs (Entry.Sent made p id start ∷ es) h same = absurd h
fill_waits w n ids fs (Entry.Released made p id start release ∷ es) h same = absurd h
fill_waits w n ids fs (Entry.Done made p id start release finish ∷ es) h same = absurd h

pub moved : (test : ℕ → Bool) (id : ℕ) (others ids : List ℕ) → count test (id ∷ others ++ ids) ≡ count test (others ++ id ∷ ids)
moved test id others ids = omega (arith, count-append test others ids, count-append test others (id ∷ ids))

pub fill_started : (w n : ℕ) (ids : List ℕ) (fs : List Flight) (es : List Entry) → InOrder es → SameIds (ids_of fs) (busy_ids es ++ ids) →
    fill w fs (waiting_of es) ≡ record { in_flight = fs ++ newly w n ids es; waiting = waiting_of (start_all w n ids es) }
fill_started w n ids fs [] h same = ap (λ xs. record { in_flight = xs; waiting = [] }) (sym (append_none fs))
fill_started w n ids fs (Entry.Queued made p ∷ es) h same =
    fill_waits w n ids fs (Entry.Queued made p ∷ es) h (λ test. same test ∙ ap (λ xs. count test (xs ++ ids)) (busy_waits es h))
fill_started w n ids fs (Entry.Sent made p id start ∷ es) h same =
    fill_started w n (id ∷ ids) fs es h (λ test. same test ∙ moved test id (busy_ids es) ids)
fill_started w n ids fs (Entry.Released made p id start release ∷ es) h same =
    fill_started w n (id ∷ ids) fs es h (λ test. same test ∙ moved test id (busy_ids es) ids)
fill_started w n ids fs (Entry.Done made p id start release finish ∷ es) h same = fill_started w n ids fs es h same

pub queue_started : (w n : ℕ) (connection : Option ConnectionName) (es : List Entry) → IsBelow (suc n) es → InOrder es →
    queue_of (suc n) (started w n connection es) ≡ filled_on connection w (flights_below (suc n) es) (waiting_of es)
queue_started w n None es below order = refl
queue_started w n (Some x) es below order =
    ap₂ (λ ids fs. record { in_flight = map released_flight ids ++ fs; waiting = waiting_of (start_all w n [] es) })
    (released_started (suc n) w n [] es) (sent_started w n [] es order)
    ∙ ap (λ fs. record { in_flight = fs; waiting = waiting_of (start_all w n [] es) })
    (sym (append_assoc (map released_flight (released_below (suc n) es)) (sent_flights es) (newly w n [] es)))
    ∙ sym (fill_started w n [] (flights_below (suc n) es) es order
    (λ test. same_ids (suc n) es below test ∙ ap (count test) (sym (append_none (busy_ids es)))))
