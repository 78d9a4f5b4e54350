-- The copies that a place sends are the PUBLISHes of all that starts there, since nothing waited in vain before.
use Rattle.std.proofs.Common.{◌≡◌, ◌≤◌, ℕ, Bool, true, false, ◌==◌, nat_lt, if◌then◌else◌, List, [], ◌∷◌, ◌++◌, length, map, take, drop, refl, ap, sym, ◌∙◌, ◌⊎◌, inl, inr, arith}
use Rattle.std.proofs.lemmas.Bool.{both_ways, cases_Bool}
use Rattle.packet_base.specs.declared.qos.QoS.{QoS}
use Rattle.packet_base.specs.declared.qos.QoS.TheVariants as qos_levels
use Rattle.session_base.specs.declared.publication.Publication.{Publication}
use Rattle.session_base.specs.Publication.{is_answered}
use Rattle.session_base.specs.Identifiers.{least_free}
use Rattle.broker_spec.specs.Connection.{ConnectionName}
use Rattle.broker_spec.specs.Entries.{Entry, queued}
use Rattle.broker_spec.specs.Readings.{made_at, waiting_of, busy_ids}
use Rattle.broker_spec.specs.Times.{start_all}
use Rattle.broker_spec.specs.Sends.{publish_output, all_started, copy_outputs}
use Rattle.session_base.proofs.CountedIdentifiers.{count, same_length}
use Rattle.broker_spec.proofs.SoundEntries.{Sound}
use Rattle.broker_base.proofs.flights.IdentifiersInFlight.{append_none}
use Rattle.broker_base.proofs.flights.SendsOfCopies.{starts_full}
use Rattle.broker_base.proofs.flights.EntriesOfPlaces.{busy_from, busy_from_is, made_here}
use Rattle.broker_base.proofs.QuietPasts.{QuietEntries}
use Rattle.exactly_once.specs.Handshake.{Forward, publishing}
use Rattle.exactly_once.specs.Sends.{sends_to}
use Rattle.exactly_once.specs.Carried.{is_qos2}
use Rattle.exactly_once.specs.Inside.AsSubscriber.{forward_of}
use Rattle.exactly_once.proofs.Starts.{rows_started}
use Rattle.exactly_once.proofs.Sent.{forward_publish, sends_publish}

-- QoS 0 is not of the handshake
none_two : (q : QoS) → is_answered q ≡ false → is_qos2 q ≡ false
none_two qos_levels.AtMostOnce e = refl
none_two qos_levels.AtLeastOnce e = absurd (both_ways true e refl)
none_two qos_levels.ExactlyOnce e = absurd (both_ways true e refl)

-- a full window
shut : (k w : ℕ) → w ≤ k → nat_lt k w ≡ false
shut k w h = grind arith

-- a window that is not open is full
beyond : (k w : ℕ) → nat_lt k w ≡ false → w ≤ k
beyond k w e = grind (arith, e)

-- nothing starts in a full window
rows_full : (w n : ℕ) (ids : List ℕ) (ps : List Publication) → w ≤ length ids → rows_started w ids (map (Entry.Queued n) ps) ≡ []
rows_full w n ids [] h = refl
rows_full w n ids (p ∷ ps) h = rw (shut (length ids) w h) refl

-- one that is published first
one_sent : (x : ConnectionName) (dup : Bool) (id : ℕ) (p : Publication) (more : List _)
    → forward_of (sends_to x (publish_output x dup id p ∷ more)) ≡ (if is_qos2 p.qos then Forward.Publish id p ∷ forward_of (sends_to x more) else forward_of (sends_to x more))
one_sent x dup id p more = ap forward_of (sends_publish x dup id p more) ∙ forward_publish dup id p (sends_to x more)

-- if an entry starts at this place it is sent
same_place : (n : ℕ) → (n == n) ≡ true
same_place n = grind arith

-- what is handed out of the place's own entries is what starts of them
pub forward_handed : (x : ConnectionName) (w n : ℕ) (ids : List ℕ) (copies : List Publication)
    → forward_of (sends_to x (copy_outputs x n copies (start_all w n ids (map (Entry.Queued n) (queued copies))))) ≡ map publishing (rows_started w ids (map (Entry.Queued n) (queued copies)))
forward_handed x w n ids [] = refl
forward_handed x w n ids (p ∷ copies) = by (cases_Bool (is_answered p.qos)) (forward_handed x w n ids copies) (forward_handed x w n (least_free ids ∷ ids) copies)
  where
    rest : List ℕ → List Entry
    rest others = start_all w n others (map (Entry.Queued n) (queued copies))

    rows : List ℕ → List (ℕ × Publication)
    rows others = rows_started w others (map (Entry.Queued n) (queued copies))

    sent : List Entry → List (Forward Publication)
    sent es = forward_of (sends_to x (copy_outputs x n copies es))

    starts : (b : Bool) → sent (rest (least_free ids ∷ ids)) ≡ map publishing (rows (least_free ids ∷ ids))
        → (if b then Forward.Publish (least_free ids) p ∷ sent (rest (least_free ids ∷ ids)) else sent (rest (least_free ids ∷ ids)))
        ≡ map publishing (if b then (least_free ids, p) ∷ rows (least_free ids ∷ ids) else rows (least_free ids ∷ ids))
    starts true e = ap (λ l. Forward.Publish (least_free ids) p ∷ l) e
    starts false e = e

    room : (b : Bool) → nat_lt (length ids) w ≡ b → sent (rest ids) ≡ map publishing (rows ids) → sent (rest (least_free ids ∷ ids)) ≡ map publishing (rows (least_free ids ∷ ids))
        → forward_of (sends_to x (all_started x n (take 1 (if b then Entry.Sent n p (least_free ids) n ∷ rest (least_free ids ∷ ids) else Entry.Queued n p ∷ map (Entry.Queued n) (queued copies)))
        ++ copy_outputs x n copies (drop 1 (if b then Entry.Sent n p (least_free ids) n ∷ rest (least_free ids ∷ ids) else Entry.Queued n p ∷ map (Entry.Queued n) (queued copies)))))
        ≡ map publishing (if b then (if is_qos2 p.qos then (least_free ids, p) ∷ rows (least_free ids ∷ ids) else rows (least_free ids ∷ ids)) else [])
    room true b shut_rest open_rest =
        rw (same_place n) (one_sent x false (least_free ids) p (copy_outputs x n copies (rest (least_free ids ∷ ids))) ∙ starts (is_qos2 p.qos) open_rest)
    room false b shut_rest open_rest =
        ap sent (sym (starts_full w n ids (queued copies) (beyond (length ids) w b))) ∙ shut_rest ∙ ap (map publishing) (rows_full w n ids (queued copies) (beyond (length ids) w b))

    by : (is_answered p.qos ≡ true) ⊎ (is_answered p.qos ≡ false) → sent (rest ids) ≡ map publishing (rows ids) → sent (rest (least_free ids ∷ ids)) ≡ map publishing (rows (least_free ids ∷ ids))
        → forward_of (sends_to x (copy_outputs x n (p ∷ copies) (start_all w n ids (map (Entry.Queued n) (queued (p ∷ copies)))))) ≡ map publishing (rows_started w ids (map (Entry.Queued n) (queued (p ∷ copies))))
    by (inl e) f g = rw e (room (nat_lt (length ids) w) refl f g)
    by (inr e) f g = rw e (one_sent x false 0 p (copy_outputs x n copies (rest ids)) ∙ rw (none_two p.qos e) f)

-- ---- among all entries

-- what waited below does not start, since the window is full
pub rows_quiet : (w n : ℕ) (ids : List ℕ) (es : List Entry) (ps : List Publication) → (waiting_of es ≡ []) ⊎ (w ≤ length (busy_from ids es))
    → rows_started w ids (es ++ map (Entry.Queued n) ps) ≡ rows_started w (busy_from ids es) (map (Entry.Queued n) ps)
rows_quiet w n ids [] ps quiet = refl
rows_quiet w n ids (Entry.Queued made p ∷ es) ps (inl e) = absurd (cc)
rows_quiet w n ids (Entry.Queued made p ∷ es) ps (inr full) = rw (shut (length ids) w full) (sym (rows_full w n ids ps full))
rows_quiet w n ids (Entry.Sent made p id start ∷ es) ps quiet = rows_quiet w n (id ∷ ids) es ps quiet
rows_quiet w n ids (Entry.Released made p id start release ∷ es) ps quiet = rows_quiet w n (id ∷ ids) es ps quiet
rows_quiet w n ids (Entry.Done made p id start release finish ∷ es) ps quiet = rows_quiet w n ids es ps quiet

-- the bridge: what is sent of the place's copies is what starts of all entries
pub forward_made : (x : ConnectionName) (w n : ℕ) (es : List Entry) (copies : List Publication) → Sound n es → QuietEntries w es
    → forward_of (sends_to x (copy_outputs x n copies (made_at n (start_all w n [] (es ++ map (Entry.Queued n) (queued copies))))))
    ≡ map publishing (rows_started w [] (es ++ map (Entry.Queued n) (queued copies)))
forward_made x w n es copies s quiet =
    ap (λ (l : List Entry). forward_of (sends_to x (copy_outputs x n copies l))) (made_here w n [] es (queued copies) s.below s.in_order (by quiet))
    ∙ forward_handed x w n (busy_from [] es) copies
    ∙ ap (map publishing) (sym (rows_quiet w n [] es (queued copies) (by quiet)))
  where
    size : length (busy_ids es) ≡ length (busy_from [] es)
    size = same_length (busy_ids es) (busy_from [] es) (λ test. ap (count test) (sym (append_none (busy_ids es))) ∙ busy_from_is [] es s.in_order test)

    by : QuietEntries w es → (waiting_of es ≡ []) ⊎ (w ≤ length (busy_from [] es))
    by (inl e) = inl e
    by (inr h) = inr (omega (arith, h, size))
