-- What is sent after a PUBREC, as what is kept of the session says (MQTT 4.3.3).
use Rattle.std.proofs.Common.{◌≡◌, ℕ, zero, suc, Bool, true, false, ◌&&◌, ◌||◌, ◌==◌, if◌then◌else◌, Option, Some, None, List, [], ◌∷◌, ◌++◌, length, map, refl, ap, ap₂, ◌∙◌, sym}
use Rattle.std.specs.List.{list_any}
use Rattle.std.proofs.lemmas.List.Folds.{list_any-append}
use Rattle.packet.specs.declared.packet.Packet.{Packet}
use Rattle.packet.specs.declared.packet.Packet.TheVariants as packets
use Rattle.lists.specs.Lists.{has_id}
use Rattle.session_base.specs.Queue.{awaits_pubcomp, on_pubrec}
use Rattle.session_base.specs.EntryPackets.{pubrec_sends}
use Rattle.broker_spec.specs.Connection.{ConnectionName}
use Rattle.broker_spec.specs.Place.{Client, Place, Past, Limits}
use Rattle.broker_spec.specs.Sessions.{accepts, ends_any, current_connection, clean_session_of}
use Rattle.broker_spec.specs.Subscriptions.{subscriptions_of}
use Rattle.broker_spec.specs.Received.{received_of}
use Rattle.broker_spec.specs.Entries.{Entry, copies_at, queued}
use Rattle.broker_spec.specs.Readings.{released_below}
use Rattle.broker_spec.specs.Times.{at_pubrec, answered_by, started, window_at, entries_of}
use Rattle.broker_base.specs.ClientSession.{ClientSession, sent_flights, released_flight, flights_below, client_session}
use Rattle.broker_spec.specs.declared.command.Output.TheVariants.{Send}
use Rattle.broker_spec.proofs.WhatFlightsAwait.{awaits_no_pubcomp}
use Rattle.broker_base.proofs.flights.PubrecInFlight.{flights_pubrec}
use Rattle.broker_base.proofs.flights.IdentifiersInFlight.{append_none}
use Rattle.broker_base.proofs.flights.StartsInFlight.{released_started}
use Rattle.broker_base.proofs.QueueAfter.{sound_entries}
use Rattle.broker_base.proofs.KeptAfter.{kept_with}
use Rattle.broker_base.proofs.QuietPasts.{entries_next, entries_none}

-- ---- PUBREC

has_released : (i : ℕ) (ids : List ℕ) → list_any (λ flight. awaits_pubcomp i flight) (map released_flight ids) ≡ has_id i ids
has_released i [] = refl
has_released i (id ∷ ids) = ap₂ (λ a b. a || b) (yes (i == id)) (has_released i ids)
  where
    yes : (b : Bool) → (b && true) ≡ b
    yes true = refl
    yes false = refl

sent_has_none : (i : ℕ) (es : List Entry) → list_any (λ flight. awaits_pubcomp i flight) (sent_flights es) ≡ false
sent_has_none i [] = refl
sent_has_none i (Entry.Queued made p ∷ es) = sent_has_none i es
sent_has_none i (Entry.Sent made p id start ∷ es) = rw (awaits_no_pubcomp i id p) (sent_has_none i es)
sent_has_none i (Entry.Released made p id start release ∷ es) = sent_has_none i es
sent_has_none i (Entry.Done made p id start release finish ∷ es) = sent_has_none i es

or_none : (b : Bool) → (b || false) ≡ b
or_none true = refl
or_none false = refl

pub has_in_flight : (i n : ℕ) (es : List Entry) → list_any (λ flight. awaits_pubcomp i flight) (flights_below n es) ≡ has_id i (released_below n es)
has_in_flight i n es =
    list_any-append (λ flight. awaits_pubcomp i flight) (map released_flight (released_below n es)) (sent_flights es)
    ∙ ap₂ (λ a b. a || b) (has_released i (released_below n es)) (sent_has_none i es)
    ∙ or_none (has_id i (released_below n es))

released_anyway : (t w n : ℕ) (connection : Option ConnectionName) (es : List Entry) → released_below t (started w n connection es) ≡ released_below t es
released_anyway t w n None es = refl
released_anyway t w n (Some x) es = released_started t w n [] es

pub none_released_ever : (t : ℕ) → released_below t [] ≡ []
none_released_ever zero = refl
none_released_ever (suc t) = append_none (released_below t []) ∙ none_released_ever t

-- the identifiers of released entries after a PUBREC, if there is a session
abbrev pub pubrels_after : ℕ → Option ClientSession → List Packet
pubrels_after i (Some kept) = pubrec_sends i (on_pubrec i kept.state.queue.in_flight)
pubrels_after i None = []

pubrec_by_kept : (limits : Limits) (place : Place) (past : Past) (c : Client) (x : ConnectionName) (i : ℕ) (session : Option Bool) → clean_session_of past c ≡ session →
    accepts place.command place.mark c ≡ None → ends_any place c (current_connection past c) ≡ false → copies_at place past c ≡ [] →
    answered_by place.command place.mark (length past) c (entries_of limits past c) ≡ map (at_pubrec (length past) i) (entries_of limits past c) →
    (if has_id i (released_below (suc (length past)) (entries_of limits (place ∷ past) c)) then Send x (packets.Pubrel i) ∷ [] else [])
    ≡ map (Send x) (pubrels_after i (kept_with (length past) session (current_connection past c) (subscriptions_of past c) (received_of past c) (entries_of limits past c)))
pubrec_by_kept limits place past c x i None is_session not_opened not_ended no_copies answer =
    ap (λ ids. if has_id i ids then Send x (packets.Pubrel i) ∷ [] else [])
    (ap (released_below (suc (length past))) (entries_none limits place past c not_opened is_session) ∙ none_released_ever (suc (length past)))
pubrec_by_kept limits place past c x i (Some clean) is_session not_opened not_ended no_copies answer =
    ap (λ b. if b then Send x (packets.Pubrel i) ∷ [] else [])
    (ap (λ es. has_id i (released_below (suc (length past)) es))
    (entries_next limits place past c clean not_opened not_ended is_session
    ∙ ap₂ (λ es ps. started (window_at limits (place ∷ past)) (length past) (current_connection past c) (es ++ map (Entry.Queued (length past)) (queued ps))) answer no_copies
    ∙ ap (started (window_at limits (place ∷ past)) (length past) (current_connection past c)) (append_none (map (at_pubrec (length past) i) (entries_of limits past c))))
    ∙ ap (has_id i) (released_anyway (suc (length past)) (window_at limits (place ∷ past)) (length past) (current_connection past c) (map (at_pubrec (length past) i) (entries_of limits past c)))
    ∙ sym (has_in_flight i (suc (length past)) (map (at_pubrec (length past) i) (entries_of limits past c)))
    ∙ ap (list_any (λ flight. awaits_pubcomp i flight)) (flights_pubrec (length past) i (entries_of limits past c) (sound_entries limits past c)))
    ∙ by (list_any (λ flight. awaits_pubcomp i flight) (on_pubrec i (flights_below (length past) (entries_of limits past c))))
  where
    by : (b : Bool) → (if b then Send x (packets.Pubrel i) ∷ [] else []) ≡ map (Send x) (if b then packets.Pubrel i ∷ [] else [])
    by true = refl
    by false = refl

pub pubrec_is : (limits : Limits) (place : Place) (past : Past) (c : Client) (x : ConnectionName) (i : ℕ) →
    accepts place.command place.mark c ≡ None → ends_any place c (current_connection past c) ≡ false → copies_at place past c ≡ [] →
    answered_by place.command place.mark (length past) c (entries_of limits past c) ≡ map (at_pubrec (length past) i) (entries_of limits past c) →
    (if has_id i (released_below (suc (length past)) (entries_of limits (place ∷ past) c)) then Send x (packets.Pubrel i) ∷ [] else [])
    ≡ map (Send x) (pubrels_after i (client_session limits past c))
pubrec_is limits place past c x i = pubrec_by_kept limits place past c x i (clean_session_of past c) refl
