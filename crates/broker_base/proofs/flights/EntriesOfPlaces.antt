-- The entries that a place made, among all of a session.
use Rattle.std.proofs.Common.{◌≡◌, ℕ, ◌<◌, ◌≤◌, Bool, true, false, ◌⊎◌, inl, inr, ◌==◌, nat_lt, if◌then◌else◌, List, [], ◌∷◌, ◌++◌, length, map, refl, ap, ◌∙◌, sym, arith}
use Rattle.session_base.specs.declared.publication.Publication.{Publication}
use Rattle.session_base.specs.Identifiers.{least_free}
use Rattle.broker_spec.specs.Entries.{Entry}
use Rattle.broker_spec.specs.Readings.{made_at, waiting_of, busy_ids}
use Rattle.broker_spec.specs.Times.{start_all}
use Rattle.session_base.proofs.CountedIdentifiers.{count, SameIds}
use Rattle.broker_spec.proofs.SoundEntries.{IsBelow, AllWait, InOrder}
use Rattle.broker_spec.proofs.SoundStarts.{busy_waits}
use Rattle.broker_base.proofs.flights.StartsInFlight.{moved}
use Rattle.broker_base.proofs.flights.SendsOfCopies.{starts_full, this_place}

-- ---- the entries that a place made

-- the identifiers in use when a start comes to the end of the entries
abbrev pub busy_from : List ℕ → List Entry → List ℕ
busy_from ids [] = ids
busy_from ids (Entry.Queued made p ∷ es) = ids
busy_from ids (Entry.Sent made p id start ∷ es) = busy_from (id ∷ ids) es
busy_from ids (Entry.Released made p id start release ∷ es) = busy_from (id ∷ ids) es
busy_from ids (Entry.Done made p id start release finish ∷ es) = busy_from ids es

older : (made n : ℕ) → made < n → (made == n) ≡ false
older made n h = grind arith

made_new : (n : ℕ) (ps : List Publication) → made_at n (map (Entry.Queued n) ps) ≡ map (Entry.Queued n) ps
made_new n [] = refl
made_new n (p ∷ ps) = rw (this_place n) (ap (λ es. Entry.Queued n p ∷ es) (made_new n ps))

made_started : (w n : ℕ) (ids : List ℕ) (ps : List Publication) → made_at n (start_all w n ids (map (Entry.Queued n) ps)) ≡ start_all w n ids (map (Entry.Queued n) ps)
made_started w n ids [] = refl
made_started w n ids (p ∷ ps) = by (nat_lt (length ids) w) (made_started w n (least_free ids ∷ ids) ps)
  where
    by : (b : Bool) → made_at n (start_all w n (least_free ids ∷ ids) (map (Entry.Queued n) ps)) ≡ start_all w n (least_free ids ∷ ids) (map (Entry.Queued n) ps) →
        made_at n (if b then Entry.Sent n p (least_free ids) n ∷ start_all w n (least_free ids ∷ ids) (map (Entry.Queued n) ps) else Entry.Queued n p ∷ map (Entry.Queued n) ps)
        ≡ (if b then Entry.Sent n p (least_free ids) n ∷ start_all w n (least_free ids ∷ ids) (map (Entry.Queued n) ps) else Entry.Queued n p ∷ map (Entry.Queued n) ps)
    by true e = rw (this_place n) (ap (λ es. Entry.Sent n p (least_free ids) n ∷ es) e)
    by false e = rw (this_place n) (ap (λ es. Entry.Queued n p ∷ es) (made_new n ps))

made_waits : (n : ℕ) (es : List Entry) (ps : List Publication) → AllWait es → IsBelow n es → made_at n (es ++ map (Entry.Queued n) ps) ≡ map (Entry.Queued n) ps
made_waits n [] ps h below = made_new n ps
made_waits n (Entry.Queued made p ∷ es) ps h below = rw (older made n below.0) (made_waits n es ps h below.1)
made_waits n (Entry.Sent made p id start ∷ es) ps h below = absurd h
made_waits n (Entry.Released made p id start release ∷ es) ps h below = absurd h
made_waits n (Entry.Done made p id start release finish ∷ es) ps h below = absurd h

pub made_here : (w n : ℕ) (ids : List ℕ) (es : List Entry) (ps : List Publication) → IsBelow n es → InOrder es → (waiting_of es ≡ []) ⊎ (w ≤ length (busy_from ids es)) →
    made_at n (start_all w n ids (es ++ map (Entry.Queued n) ps)) ≡ start_all w n (busy_from ids es) (map (Entry.Queued n) ps)
made_here w n ids [] ps below order quiet = made_started w n ids ps
made_here w n ids (Entry.Queued made p ∷ es) ps below order (inl e) = absurd (cc)
made_here w n ids (Entry.Queued made p ∷ es) ps below order (inr full) =
    ap (λ b. made_at n (if b then Entry.Sent made p (least_free ids) n ∷ start_all w n (least_free ids ∷ ids) (es ++ map (Entry.Queued n) ps) else Entry.Queued made p ∷ (es ++ map (Entry.Queued n) ps))) (shut (length ids) w full)
    ∙ made_waits n (Entry.Queued made p ∷ es) ps order below
    ∙ sym (starts_full w n ids ps full)
  where
    shut : (k w : ℕ) → w ≤ k → nat_lt k w ≡ false
    shut k w h = grind arith
made_here w n ids (Entry.Sent made p id start ∷ es) ps below order quiet = rw (older made n below.0) (made_here w n (id ∷ ids) es ps below.2 order quiet)
made_here w n ids (Entry.Released made p id start release ∷ es) ps below order quiet = rw (older made n below.0) (made_here w n (id ∷ ids) es ps below.3 order quiet)
made_here w n ids (Entry.Done made p id start release finish ∷ es) ps below order quiet = rw (older made n below.0) (made_here w n ids es ps below.1 order quiet)

pub busy_from_is : (ids : List ℕ) (es : List Entry) → InOrder es → SameIds (busy_ids es ++ ids) (busy_from ids es)
busy_from_is ids [] h test = refl
busy_from_is ids (Entry.Queued made p ∷ es) h test = ap (λ xs. count test (xs ++ ids)) (busy_waits es h)
busy_from_is ids (Entry.Sent made p id start ∷ es) h test = moved test id (busy_ids es) ids ∙ busy_from_is (id ∷ ids) es h test
busy_from_is ids (Entry.Released made p id start release ∷ es) h test = moved test id (busy_ids es) ids ∙ busy_from_is (id ∷ ids) es h test
busy_from_is ids (Entry.Done made p id start release finish ∷ es) h test = busy_from_is ids es h test
