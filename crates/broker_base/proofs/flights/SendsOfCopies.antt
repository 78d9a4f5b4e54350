-- What a connected client is sent of the copies that a place makes is what its queue sends, copy by copy
-- (MQTT 3.3.5, 3.8.4, 4.6).
use Rattle.std.proofs.Common.{◌≡◌, ℕ, ◌<◌, ◌≤◌, Bool, true, false, ◌⊎◌, inl, inr, ◌==◌, nat_lt, if◌then◌else◌, List, [], ◌∷◌, ◌++◌, length, map, refl, ap, ap₂, ◌∙◌, sym, arith}
use Rattle.std.specs.Prelude.{take, drop}
use Rattle.std.proofs.lemmas.List.{length-map}
use Rattle.packet.specs.declared.packet.Packet.TheVariants as packets
use Rattle.session_base.specs.declared.publication.Publication.{Publication}
use Rattle.session_base.specs.Publication.{publish_for, is_answered}
use Rattle.session_base.specs.Identifiers.{least_free}
use Rattle.session_base.specs.Queue.{Flight, ids_of, started_flight, fill}
use Rattle.session_base.specs.EntryPackets.{fill_sends, copies_sent}
use Rattle.broker_spec.specs.Connection.{ConnectionName}
use Rattle.broker_spec.specs.Entries.{Entry, queued}
use Rattle.broker_spec.specs.Times.{start_all}
use Rattle.broker_spec.specs.Sends.{publish_output, all_started, copy_outputs}
use Rattle.broker_spec.specs.declared.command.Output.TheVariants.{Send}
use Rattle.session_base.proofs.CountedIdentifiers.{SameIds, same_length, same_least}
use Rattle.broker_base.proofs.flights.StartsInFlight.{same_next}

-- ---- a full window

pub fill_full : (w : ℕ) (fs : List Flight) (ps : List Publication) → w ≤ length fs → fill w fs ps ≡ record { in_flight = fs; waiting = ps }
fill_full w fs [] h = refl
fill_full w fs (p ∷ ps) h = ap (λ b. if b then fill w (fs ++ started_flight fs p ∷ []) ps else record { in_flight = fs; waiting = p ∷ ps }) (full (length fs) w h)
  where
    full : (k w : ℕ) → w ≤ k → nat_lt k w ≡ false
    full k w h = grind arith

pub sends_full : (w : ℕ) (fs : List Flight) (ps : List Publication) → w ≤ length fs → fill_sends w fs ps ≡ []
sends_full w fs [] h = refl
sends_full w fs (p ∷ ps) h = ap (λ b. if b then packets.Publish (publish_for false (least_free (ids_of fs)) p) ∷ fill_sends w (fs ++ started_flight fs p ∷ []) ps else []) (full (length fs) w h)
  where
    full : (k w : ℕ) → w ≤ k → nat_lt k w ≡ false
    full k w h = grind arith

pub starts_full : (w n : ℕ) (ids : List ℕ) (ps : List Publication) → w ≤ length ids → start_all w n ids (map (Entry.Queued n) ps) ≡ map (Entry.Queued n) ps
starts_full w n ids [] h = refl
starts_full w n ids (p ∷ ps) h =
    ap (λ b. if b then Entry.Sent n p (least_free ids) n ∷ start_all w n (least_free ids ∷ ids) (map (Entry.Queued n) ps) else Entry.Queued n p ∷ map (Entry.Queued n) ps) (full (length ids) w h)
  where
    full : (k w : ℕ) → w ≤ k → nat_lt k w ≡ false
    full k w h = grind arith

-- ---- copy by copy

pub this_place : (n : ℕ) → (n == n) ≡ true
this_place n = grind arith

within : (k w : ℕ) → nat_lt k w ≡ true → k < w
within k w e = grind arith

beyond : (k w : ℕ) → nat_lt k w ≡ false → w ≤ k
beyond k w e = grind arith

-- nothing waits, or the window is full
abbrev pub Quiet : ℕ → List Flight → List Publication → Type 0
Quiet w fs ps = (ps ≡ []) ⊎ (w ≤ length fs)

queued_yes : (p : Publication) (ps : List Publication) → is_answered p.qos ≡ true → queued (p ∷ ps) ≡ p ∷ queued ps
queued_yes p ps e = rw e refl

queued_no : (p : Publication) (ps : List Publication) → is_answered p.qos ≡ false → queued (p ∷ ps) ≡ queued ps
queued_no p ps e = rw e refl

-- if the window is open, the copy starts
sent_now : (x : ConnectionName) (w n : ℕ) (fs : List Flight) (p : Publication) → length fs < w →
    fill_sends w fs ([] ++ p ∷ []) ≡ packets.Publish (publish_for false (least_free (ids_of fs)) p) ∷ []
sent_now x w n fs p h = ap (λ b. if b then packets.Publish (publish_for false (least_free (ids_of fs)) p) ∷ [] else []) (is_open (length fs) w h)
  where
    is_open : (k w : ℕ) → k < w → nat_lt k w ≡ true
    is_open k w h = grind arith

filled_now : (w : ℕ) (fs : List Flight) (p : Publication) → length fs < w →
    fill w fs ([] ++ p ∷ []) ≡ record { in_flight = fs ++ started_flight fs p ∷ []; waiting = [] }
filled_now w fs p h = ap (λ b. if b then record { in_flight = fs ++ started_flight fs p ∷ []; waiting = [] } else record { in_flight = fs; waiting = p ∷ [] }) (is_open (length fs) w h)
  where
    is_open : (k w : ℕ) → k < w → nat_lt k w ≡ true
    is_open k w h = grind arith

same_size : (fs : List Flight) (ids : List ℕ) → SameIds (ids_of fs) ids → length fs ≡ length ids
same_size fs ids same = sym (length-map fs (λ (flight : Flight). flight.0)) ∙ same_length (ids_of fs) ids same

-- by whether the window is open
handed_open : (x : ConnectionName) (w n : ℕ) (ids : List ℕ) (fs : List Flight) (ms : List Publication) (p : Publication) (copies : List Publication) →
    SameIds (ids_of fs) ids → Quiet w fs ms → nat_lt (length ids) w ≡ true →
    copy_outputs x n copies (start_all w n (least_free ids ∷ ids) (map (Entry.Queued n) (queued copies)))
    ≡ map (Send x) (copies_sent w copies (record { in_flight = fs ++ started_flight fs p ∷ []; waiting = [] })) →
    all_started x n (Entry.Sent n p (least_free ids) n ∷ []) ++ copy_outputs x n copies (start_all w n (least_free ids ∷ ids) (map (Entry.Queued n) (queued copies)))
    ≡ map (Send x) (fill_sends w fs (ms ++ p ∷ []) ++ copies_sent w copies (fill w fs (ms ++ p ∷ [])))
handed_open x w n ids fs ms p copies same (inl e) is_open rest =
    rw (this_place n)
    (ap₂ (λ id answers. publish_output x false id p ∷ answers) (sym (same_least (ids_of fs) ids same)) rest
    ∙ sym (ap₂ (λ first queue. map (Send x) (first ++ copies_sent w copies queue))
    (ap (λ ps. fill_sends w fs (ps ++ p ∷ [])) e ∙ sent_now x w n fs p smaller)
    (ap (λ ps. fill w fs (ps ++ p ∷ [])) e ∙ filled_now w fs p smaller)))
  where
    smaller : length fs < w
    smaller = omega (arith, same_size fs ids same, within (length ids) w is_open)
handed_open x w n ids fs ms p copies same (inr e) is_open rest = absurd (omega (arith, same_size fs ids same, within (length ids) w is_open, e))

handed_shut : (x : ConnectionName) (w n : ℕ) (ids : List ℕ) (fs : List Flight) (ms : List Publication) (p : Publication) (copies : List Publication) →
    SameIds (ids_of fs) ids → nat_lt (length ids) w ≡ false →
    copy_outputs x n copies (start_all w n ids (map (Entry.Queued n) (queued copies)))
    ≡ map (Send x) (copies_sent w copies (record { in_flight = fs; waiting = ms ++ p ∷ [] })) →
    all_started x n (Entry.Queued n p ∷ []) ++ copy_outputs x n copies (map (Entry.Queued n) (queued copies))
    ≡ map (Send x) (fill_sends w fs (ms ++ p ∷ []) ++ copies_sent w copies (fill w fs (ms ++ p ∷ [])))
handed_shut x w n ids fs ms p copies same shut rest =
    ap (λ es. copy_outputs x n copies es) (sym (starts_full w n ids (queued copies) (beyond (length ids) w shut)))
    ∙ rest
    ∙ sym (ap₂ (λ first queue. map (Send x) (first ++ copies_sent w copies queue)) (sends_full w fs (ms ++ p ∷ []) full) (fill_full w fs (ms ++ p ∷ []) full))
  where
    full : w ≤ length fs
    full = omega (arith, same_size fs ids same, beyond (length ids) w shut)

pub handed_is : (x : ConnectionName) (w n : ℕ) (ids : List ℕ) (fs : List Flight) (ms copies : List Publication) → SameIds (ids_of fs) ids → Quiet w fs ms →
    copy_outputs x n copies (start_all w n ids (map (Entry.Queued n) (queued copies))) ≡ map (Send x) (copies_sent w copies (record { in_flight = fs; waiting = ms }))
handed_is x w n ids fs ms [] same quiet = refl
handed_is x w n ids fs ms (p ∷ copies) same quiet =
    by (is_answered p.qos) refl
    (λ qs. handed_is x w n ids fs qs copies same)
    (handed_is x w n (least_free ids ∷ ids) (fs ++ started_flight fs p ∷ []) [] copies (same_next fs ids p same) (inl refl))
  where
    one : (b : Bool) → nat_lt (length ids) w ≡ b →
        ((qs : List Publication) → Quiet w fs qs → copy_outputs x n copies (start_all w n ids (map (Entry.Queued n) (queued copies))) ≡ map (Send x) (copies_sent w copies (record { in_flight = fs; waiting = qs }))) →
        (copy_outputs x n copies (start_all w n (least_free ids ∷ ids) (map (Entry.Queued n) (queued copies))) ≡ map (Send x) (copies_sent w copies (record { in_flight = fs ++ started_flight fs p ∷ []; waiting = [] }))) →
        all_started x n (take 1 (if b then Entry.Sent n p (least_free ids) n ∷ start_all w n (least_free ids ∷ ids) (map (Entry.Queued n) (queued copies)) else Entry.Queued n p ∷ map (Entry.Queued n) (queued copies)))
        ++ copy_outputs x n copies (drop 1 (if b then Entry.Sent n p (least_free ids) n ∷ start_all w n (least_free ids ∷ ids) (map (Entry.Queued n) (queued copies)) else Entry.Queued n p ∷ map (Entry.Queued n) (queued copies)))
        ≡ map (Send x) (fill_sends w fs (ms ++ p ∷ []) ++ copies_sent w copies (fill w fs (ms ++ p ∷ [])))
    one true is_open shut_rest open_rest = handed_open x w n ids fs ms p copies same quiet is_open open_rest
    one false shut shut_rest open_rest =
        handed_shut x w n ids fs ms p copies same shut (shut_rest (ms ++ p ∷ []) (inr (omega (arith, same_size fs ids same, beyond (length ids) w shut))))

    by : (b : Bool) → is_answered p.qos ≡ b →
        ((qs : List Publication) → Quiet w fs qs → copy_outputs x n copies (start_all w n ids (map (Entry.Queued n) (queued copies))) ≡ map (Send x) (copies_sent w copies (record { in_flight = fs; waiting = qs }))) →
        (copy_outputs x n copies (start_all w n (least_free ids ∷ ids) (map (Entry.Queued n) (queued copies))) ≡ map (Send x) (copies_sent w copies (record { in_flight = fs ++ started_flight fs p ∷ []; waiting = [] }))) →
        (if b then all_started x n (take 1 (start_all w n ids (map (Entry.Queued n) (if b then p ∷ queued copies else queued copies)))) ++ copy_outputs x n copies (drop 1 (start_all w n ids (map (Entry.Queued n) (if b then p ∷ queued copies else queued copies))))
        else publish_output x false 0 p ∷ copy_outputs x n copies (start_all w n ids (map (Entry.Queued n) (if b then p ∷ queued copies else queued copies))))
        ≡ map (Send x) (if b then fill_sends w fs (ms ++ p ∷ []) ++ copies_sent w copies (fill w fs (ms ++ p ∷ [])) else packets.Publish (publish_for false 0 p) ∷ copies_sent w copies (record { in_flight = fs; waiting = ms }))
    by true e shut_rest open_rest = one (nat_lt (length ids) w) refl shut_rest open_rest
    by false e shut_rest open_rest = ap (λ answers. publish_output x false 0 p ∷ answers) (shut_rest ms quiet)
