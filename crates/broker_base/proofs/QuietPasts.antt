-- In every past a connected client's queue is filled: nothing waits, or the window is full. A client
-- with a connection has a session. What a place does to the entries of a session that continues.
use Rattle.std.proofs.Common.{◌≡◌, ℕ, ◌+◌, ◌≤◌, suc, Bool, true, false, not, ◌&&◌, ◌||◌, ◌⊎◌, inl, inr, nat_lt, if◌then◌else◌, Option, Some, None, List, [], ◌∷◌, ◌++◌, length, map, refl, ap, ◌∙◌, sym, arith}
use Rattle.std.proofs.lemmas.List.{length-map}
use Rattle.session_base.specs.declared.publication.Publication.{Publication}
use Rattle.session_base.specs.Identifiers.{least_free}
use Rattle.session_base.specs.Queue.{Flight, ids_of, fill}
use Rattle.broker_spec.specs.Connection.{ConnectionName}
use Rattle.broker_spec.specs.Place.{Client, Place, Past, Limits, only_if}
use Rattle.broker_spec.specs.Sessions.{accepts, any_connection, ends, expels, ends_any, newest_connection, current_connection, newest_clean_session, clean_session_of, is_beginning, begins, in_session}
use Rattle.broker_spec.specs.Entries.{Entry, copies_at, queued}
use Rattle.broker_spec.specs.Readings.{waiting_of, busy_ids}
use Rattle.broker_spec.specs.Times.{answered_by, start_all, started, window_at, entries_of}
use Rattle.broker_base.specs.ClientSession.{flights_below}
use Rattle.session_base.proofs.CountedIdentifiers.{same_length}
use Rattle.broker_spec.proofs.SoundEntries.{InOrder, Sound}
use Rattle.broker_spec.proofs.SoundStarts.{order_waits, sound_new}
use Rattle.broker_base.proofs.flights.IdentifiersInFlight.{same_ids}
use Rattle.broker_base.proofs.flights.SendsOfCopies.{Quiet, fill_full}
use Rattle.broker_base.proofs.QueueAfter.{sound_entries, sound_answered}

-- ---- filled

abbrev pub QuietEntries : ℕ → List Entry → Type 0
QuietEntries w es = (waiting_of es ≡ []) ⊎ (w ≤ length (busy_ids es))

full_now : (k w : ℕ) → nat_lt k w ≡ false → w ≤ k
full_now k w e = grind arith

quiet_started : (w n : ℕ) (ids : List ℕ) (es : List Entry) → InOrder es →
    (waiting_of (start_all w n ids es) ≡ []) ⊎ (w ≤ length (busy_ids (start_all w n ids es)) + length ids)
quiet_started w n ids [] h = inl refl
quiet_started w n ids (Entry.Queued made p ∷ es) h = by (nat_lt (length ids) w) refl (quiet_started w n (least_free ids ∷ ids) es (order_waits es h))
  where
    by : (b : Bool) → nat_lt (length ids) w ≡ b →
        (waiting_of (start_all w n (least_free ids ∷ ids) es) ≡ []) ⊎ (w ≤ length (busy_ids (start_all w n (least_free ids ∷ ids) es)) + suc (length ids)) →
        (waiting_of (if b then Entry.Sent made p (least_free ids) n ∷ start_all w n (least_free ids ∷ ids) es else Entry.Queued made p ∷ es) ≡ [])
        ⊎ (w ≤ length (busy_ids (if b then Entry.Sent made p (least_free ids) n ∷ start_all w n (least_free ids ∷ ids) es else Entry.Queued made p ∷ es)) + length ids)
    by true e (inl k) = inl k
    by true e (inr k) = inr (omega (arith, k))
    by false e k = inr (omega (arith, full_now (length ids) w e))
quiet_started w n ids (Entry.Sent made p id start ∷ es) h =
    elim (quiet_started w n (id ∷ ids) es h) [ inl k ↦ inl k | inr k ↦ inr (omega (arith, k)) ]
quiet_started w n ids (Entry.Released made p id start release ∷ es) h =
    elim (quiet_started w n (id ∷ ids) es h) [ inl k ↦ inl k | inr k ↦ inr (omega (arith, k)) ]
quiet_started w n ids (Entry.Done made p id start release finish ∷ es) h = quiet_started w n ids es h

quiet_in : (w n : ℕ) (session : Option Bool) (beginning : Bool) (connection : Option ConnectionName) (x : ConnectionName) (es : List Entry) → InOrder es → connection ≡ Some x →
    QuietEntries w (in_session session beginning [] (started w n connection es))
quiet_in w n None beginning connection x es h e = inl refl
quiet_in w n (Some clean) true connection x es h e = inl refl
quiet_in w n (Some clean) false None x es h e = absurd (cc)
quiet_in w n (Some clean) false (Some y) x es h e = elim (quiet_started w n [] es h) [ inl k ↦ inl k | inr k ↦ inr (omega (arith, k)) ]

pub quiet_entries : (limits : Limits) (past : Past) (c : Client) (x : ConnectionName) → current_connection past c ≡ Some x → QuietEntries (window_at limits past) (entries_of limits past c)
unfolding entries_of
quiet_entries limits [] c x e = inl refl
quiet_entries limits (place ∷ past) c x e =
    let s : Sound (suc (length past)) (answered_by place.command place.mark (length past) c (entries_of limits past c) ++ map (Entry.Queued (length past)) (queued (copies_at place past c)))
    = sound_new (length past) (answered_by place.command place.mark (length past) c (entries_of limits past c)) (queued (copies_at place past c))
    (sound_answered place.command place.mark (length past) c (entries_of limits past c) (sound_entries limits past c)) in
    quiet_in (window_at limits (place ∷ past)) (length past) (clean_session_of (place ∷ past) c) (begins place past c) (current_connection (place ∷ past) c) x
    (answered_by place.command place.mark (length past) c (entries_of limits past c) ++ map (Entry.Queued (length past)) (queued (copies_at place past c))) s.in_order e

pub quiet_queue : (limits : Limits) (past : Past) (c : Client) (x : ConnectionName) → current_connection past c ≡ Some x →
    Quiet (window_at limits past) (flights_below (length past) (entries_of limits past c)) (waiting_of (entries_of limits past c))
quiet_queue limits past c x e =
    let s : Sound (length past) (entries_of limits past c) = sound_entries limits past c in
    let size : length (flights_below (length past) (entries_of limits past c)) ≡ length (busy_ids (entries_of limits past c)) =
    sym (length-map (flights_below (length past) (entries_of limits past c)) (λ (flight : Flight). flight.0))
    ∙ same_length (ids_of (flights_below (length past) (entries_of limits past c))) (busy_ids (entries_of limits past c)) (same_ids (length past) (entries_of limits past c) s.below) in
    elim (quiet_entries limits past c x e) [ inl k ↦ inl k | inr k ↦ inr (omega (arith, k, size)) ]

-- a fill changes no filled queue
pub quiet_filled : (w : ℕ) (fs : List Flight) (ms : List Publication) → Quiet w fs ms → fill w fs ms ≡ record { in_flight = fs; waiting = ms }
quiet_filled w fs ms (inl e) = ap (λ ps. fill w fs ps) e ∙ ap (λ ps. record { in_flight = fs; waiting = ps }) (sym e)
quiet_filled w fs ms (inr h) = fill_full w fs ms h

-- ---- a connection has a session

ended_too : (over : Bool) (connection : Option ConnectionName) → connection ≡ None → only_if (not over) connection ≡ None
ended_too true connection e = refl
ended_too false connection e = e

no_session : (opened : Option (ConnectionName × Bool)) (expelled over : Bool) (session : Option Bool) (connection : Option ConnectionName) →
    (session ≡ None → connection ≡ None) → newest_clean_session opened expelled (expelled || over) session ≡ None → newest_connection opened (expelled || over) connection ≡ None
no_session (Some a) expelled over session connection h e = absurd (cc)
no_session None expelled over None connection h e = ended_too (expelled || over) connection (h refl)
no_session None true over (Some clean) connection h e = refl
no_session None false true (Some true) connection h e = refl
no_session None false true (Some false) connection h e = absurd (cc)
no_session None false false (Some true) connection h e = absurd (cc)
no_session None false false (Some false) connection h e = absurd (cc)

pub no_connection : (past : Past) (c : Client) → clean_session_of past c ≡ None → current_connection past c ≡ None
unfolding clean_session_of current_connection
no_connection [] c e = refl
no_connection (place ∷ past) c e =
    no_session (accepts place.command place.mark c) (expels place.command c) (any_connection (ends place.command place.mark) (current_connection past c)) (clean_session_of past c) (current_connection past c) (no_connection past c) e

-- ---- the entries of a session that continues

goes_on : (clean over : Bool) → over ≡ false → only_if (not (clean && over)) (Some clean) ≡ Some clean
goes_on true over e = ap (λ b. only_if (not b) (Some true)) e
goes_on false over e = refl

entries_by : (w n : ℕ) (clean : Bool) (es : List Entry) (opened : Option (ConnectionName × Bool)) (expelled over : Bool) (session : Option Bool) (connection : Option ConnectionName) →
    opened ≡ None → (expelled || over) ≡ false → session ≡ Some clean →
    in_session (newest_clean_session opened expelled (expelled || over) session) (is_beginning opened session) [] (started w n (newest_connection opened (expelled || over) connection) es) ≡ started w n connection es
entries_by w n clean es (Some opened) expelled over session connection a b c = absurd (cc)
entries_by w n clean es None expelled over None connection a b c = absurd (cc)
entries_by w n clean es None true over (Some old) connection a b c = absurd (cc)
entries_by w n clean es None false true (Some old) connection a b c = absurd (cc)
entries_by w n clean es None false false (Some true) connection a b c = refl
entries_by w n clean es None false false (Some false) connection a b c = refl

pub entries_next : (limits : Limits) (place : Place) (past : Past) (c : Client) (clean : Bool) → accepts place.command place.mark c ≡ None → ends_any place c (current_connection past c) ≡ false → clean_session_of past c ≡ Some clean →
    entries_of limits (place ∷ past) c
    ≡ started (window_at limits (place ∷ past)) (length past) (current_connection past c) (answered_by place.command place.mark (length past) c (entries_of limits past c) ++ map (Entry.Queued (length past)) (queued (copies_at place past c)))
unfolding entries_of clean_session_of current_connection
entries_next limits place past c clean a b e =
    entries_by (window_at limits (place ∷ past)) (length past) clean
    (answered_by place.command place.mark (length past) c (entries_of limits past c) ++ map (Entry.Queued (length past)) (queued (copies_at place past c)))
    (accepts place.command place.mark c) (expels place.command c) (any_connection (ends place.command place.mark) (current_connection past c)) (clean_session_of past c) (current_connection past c) a b e

none_by : (es : List Entry) (opened : Option (ConnectionName × Bool)) (expelled over : Bool) (session : Option Bool) → opened ≡ None → session ≡ None →
    in_session (newest_clean_session opened expelled over session) (is_beginning opened session) [] es ≡ []
none_by es (Some a) expelled over session e f = absurd (cc)
none_by es None expelled over (Some clean) e f = absurd (cc)
none_by es None expelled over None e f = refl

pub entries_none : (limits : Limits) (place : Place) (past : Past) (c : Client) → accepts place.command place.mark c ≡ None → clean_session_of past c ≡ None → entries_of limits (place ∷ past) c ≡ []
unfolding entries_of clean_session_of current_connection
entries_none limits place past c a e =
    none_by (started (window_at limits (place ∷ past)) (length past) (newest_connection (accepts place.command place.mark c) (ends_any place c (current_connection past c)) (current_connection past c))
    (answered_by place.command place.mark (length past) c (entries_of limits past c) ++ map (Entry.Queued (length past)) (queued (copies_at place past c))))
    (accepts place.command place.mark c) (expels place.command c) (ends_any place c (current_connection past c)) (clean_session_of past c) a e
