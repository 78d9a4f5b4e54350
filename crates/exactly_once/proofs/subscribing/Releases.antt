-- The identifiers whose PUBREL is sent again are apart, and of released items.
use Rattle.std.proofs.Common.{◌≡◌, ◌≤◌, ◌+◌, ℕ, zero, suc, Bool, true, false, ◌||◌, ◌==◌, if◌then◌else◌, List, [], ◌∷◌, ◌++◌, map, refl, ap, sym, ◌∙◌, ◌⊎◌, inl, inr, arith}
use Rattle.std.proofs.lemmas.List.{map-append}
use Rattle.std.proofs.lemmas.Bool.{cases_Bool}
use Rattle.session_base.specs.declared.publication.Publication.{Publication}
use Rattle.broker_spec.specs.Entries.{Entry}
use Rattle.broker_spec.specs.Readings.{released_at, released_below}
use Rattle.broker_base.specs.ClientSession.{sent_flights, released_flight, flights_below}
use Rattle.session_base.specs.Queue.{Flight, ids_of}
use Rattle.session_base.proofs.CountedIdentifiers.{one_if, count, count-append}
use Rattle.broker_spec.proofs.SoundEntries.{Sound}
use Rattle.broker_base.proofs.flights.IdentifiersInFlight.{same_ids}
use Rattle.lists.specs.Lists.{has_id, IsDistinct, Each}
use Rattle.exactly_once.specs.Items.{SenderItem, has_released}
use Rattle.lists.proofs.OfEach.{each_append, each_then}
use Rattle.lists.proofs.Tests.{or_right, or_left, none_or, eq_same}
use Rattle.exactly_once.specs.Carried.{is_qos2}
use Rattle.exactly_once.specs.Inside.AsSubscriber.{items_of_entries}
use Rattle.exactly_once.proofs.subscribing.Queued.{AreKept}

-- ---- of released items

-- an item more in front
more_by : (id : ℕ) (b : Bool) (item : SenderItem Publication) (items : List (SenderItem Publication)) → (has_released id items ≡ true → has_released id (item ∷ items) ≡ true) → has_released id items ≡ true
    → has_released id (if b then item ∷ items else items) ≡ true
more_by id true item items f e = f e
more_by id false item items f e = e

-- an entry more in front
has_more : (id : ℕ) (e : Entry) (es : List Entry) → has_released id (items_of_entries es) ≡ true → has_released id (items_of_entries (e ∷ es)) ≡ true
has_more id (Entry.Queued made p) es h = more_by id (is_qos2 p.qos) (SenderItem.Queued p) (items_of_entries es) (λ e. e) h
has_more id (Entry.Sent made p i start) es h = more_by id (is_qos2 p.qos) (SenderItem.Sent p i) (items_of_entries es) (λ e. e) h
has_more id (Entry.Released made p i start release) es h = more_by id (is_qos2 p.qos) (SenderItem.Released p i) (items_of_entries es) (or_right (id == i) (has_released id (items_of_entries es))) h
has_more id (Entry.Done made p i start release finish) es h = more_by id (is_qos2 p.qos) (SenderItem.Done p) (items_of_entries es) (λ e. e) h

-- those of one place
released_here : (t : ℕ) (es : List Entry) → AreKept es → Each (λ id. has_released id (items_of_entries es) ≡ true) (released_at t es)
released_here t [] h = tt
released_here t (Entry.Queued made p ∷ es) h =
    each_then (λ id. has_released id (items_of_entries es) ≡ true) (λ id. has_released id (items_of_entries (Entry.Queued made p ∷ es)) ≡ true) (released_at t es) (λ id. has_more id (Entry.Queued made p) es) (released_here t es h.1)
released_here t (Entry.Sent made p i start ∷ es) h =
    each_then (λ id. has_released id (items_of_entries es) ≡ true) (λ id. has_released id (items_of_entries (Entry.Sent made p i start ∷ es)) ≡ true) (released_at t es)
    (λ id. has_more id (Entry.Sent made p i start) es) (released_here t es h.1)
released_here t (Entry.Done made p i start release finish ∷ es) h =
    each_then (λ id. has_released id (items_of_entries es) ≡ true) (λ id. has_released id (items_of_entries (Entry.Done made p i start release finish ∷ es)) ≡ true) (released_at t es)
    (λ id. has_more id (Entry.Done made p i start release finish) es) (released_here t es h.1)
released_here t (Entry.Released made p i start release ∷ es) h =
    by (release == t)
    (each_then (λ id. has_released id (items_of_entries es) ≡ true) (λ id. has_released id (items_of_entries (Entry.Released made p i start release ∷ es)) ≡ true) (released_at t es)
    (λ id. has_more id (Entry.Released made p i start release) es) (released_here t es h.1))
  where
    first : has_released i (if is_qos2 p.qos then SenderItem.Released p i ∷ items_of_entries es else items_of_entries es) ≡ true
    first = rw h.0 (or_left (i == i) (has_released i (items_of_entries es)) (eq_same i))

    by : (b : Bool) → Each (λ id. has_released id (items_of_entries (Entry.Released made p i start release ∷ es)) ≡ true) (released_at t es)
        → Each (λ id. has_released id (items_of_entries (Entry.Released made p i start release ∷ es)) ≡ true) (if b then i ∷ released_at t es else released_at t es)
    by true g = (first, g)
    by false g = g

-- all of them
pub each_released : (n : ℕ) (es : List Entry) → AreKept es → Each (λ id. has_released id (items_of_entries es) ≡ true) (released_below n es)
each_released zero es h = tt
each_released (suc n) es h = each_append (λ id. has_released id (items_of_entries es) ≡ true) (released_below n es) (released_at n es) (each_released n es h) (released_here n es h)

-- ---- apart

-- one that is not counted is not there
not_there : (i : ℕ) (ids : List ℕ) → count (λ id. i == id) ids ≡ 0 → has_id i ids ≡ false
not_there i [] e = refl
not_there i (j ∷ ids) e = by (cases_Bool (i == j)) e (not_there i ids)
  where
    by : ((i == j) ≡ true) ⊎ ((i == j) ≡ false) → one_if (i == j) + count (λ id. i == id) ids ≡ 0 → (count (λ id. i == id) ids ≡ 0 → has_id i ids ≡ false) → ((i == j) || has_id i ids) ≡ false
    by (inl t) e ih = let f : 1 + count (λ id. i == id) ids ≡ 0 = ap (λ b. one_if b + count (λ id. i == id) ids) (sym t) ∙ e in absurd (omega (arith, f))
    by (inr t) e ih = let f : 0 + count (λ id. i == id) ids ≡ 0 = ap (λ b. one_if b + count (λ id. i == id) ids) (sym t) ∙ e in none_or (i == j) (has_id i ids) t (ih (omega (arith, f)))

-- each counted once at most
distinct_counted : (ids : List ℕ) → ((i : ℕ) → count (λ id. i == id) ids ≤ 1) → IsDistinct ids
distinct_counted [] h = tt
distinct_counted (i ∷ ids) h = (not_there i ids (by (eq_same i) (h i)), distinct_counted ids (λ j. rest j (h j)))
  where
    by : (i == i) ≡ true → one_if (i == i) + count (λ id. i == id) ids ≤ 1 → count (λ id. i == id) ids ≡ 0
    by e g = omega (arith, g, ap one_if e)

    rest : (j : ℕ) → one_if (j == i) + count (λ id. j == id) ids ≤ 1 → count (λ id. j == id) ids ≤ 1
    rest j g = omega (arith, g)

-- the identifiers of PUBRELs are those in flight
ids_released : (ids : List ℕ) → ids_of (map released_flight ids) ≡ ids
ids_released [] = refl
ids_released (id ∷ ids) = ap (λ l. id ∷ l) (ids_released ids)

-- those in flight, counted
counted_apart : (test : ℕ → Bool) (n : ℕ) (es : List Entry) → count test (ids_of (flights_below n es)) ≡ count test (released_below n es) + count test (ids_of (sent_flights es))
counted_apart test n es =
    ap (count test) (map-append (λ (flight : Flight). flight.0) (map released_flight (released_below n es)) (sent_flights es) ∙ ap (λ ids. ids ++ ids_of (sent_flights es)) (ids_released (released_below n es)))
    ∙ count-append test (released_below n es) (ids_of (sent_flights es))

-- no PUBREL twice
pub distinct_released : (n : ℕ) (es : List Entry) → Sound n es → IsDistinct (released_below n es)
distinct_released n es s =
    distinct_counted (released_below n es)
    (λ i. omega (arith, s.unique i, same_ids n es s.below (λ id. i == id), counted_apart (λ id. i == id) n es))
