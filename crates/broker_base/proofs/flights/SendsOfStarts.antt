-- What the entries that start are sent as is what a fill of the queue sends, and a client that comes back is sent
-- the queue again (MQTT 3.3.1.1, 4.4).
use Rattle.std.proofs.Common.{◌≡◌, ℕ, ◌<◌, Bool, true, false, ◌==◌, nat_lt, if◌then◌else◌, List, [], ◌∷◌, ◌++◌, length, map, refl, ap, ap₂, ◌∙◌, sym, arith}
use Rattle.std.specs.Prelude.{flat_map}
use Rattle.std.proofs.lemmas.List.{map-append, length-map}
use Rattle.packet.specs.declared.packet.Packet.TheVariants as packets
use Rattle.session_base.specs.declared.publication.Publication.{Publication}
use Rattle.session_base.specs.declared.awaits.Awaits.TheVariants as waits_for
use Rattle.session_base.specs.Publication.{is_qos1, publish_for}
use Rattle.session_base.specs.Identifiers.{least_free}
use Rattle.session_base.specs.Queue.{Flight, ids_of, started_flight}
use Rattle.session_base.specs.EntryPackets.{fill_sends, sent_anew, resend}
use Rattle.broker_spec.specs.Connection.{ConnectionName}
use Rattle.broker_spec.specs.Entries.{Entry}
use Rattle.broker_spec.specs.Readings.{released_below, waiting_of, busy_ids}
use Rattle.broker_spec.specs.Times.{start_all}
use Rattle.broker_spec.specs.Sends.{publish_output, all_started, repeated_output, resent_outputs}
use Rattle.broker_base.specs.ClientSession.{sent_flights, released_flight, flights_below}
use Rattle.broker_spec.specs.declared.command.Output.TheVariants.{Send}
use Rattle.session_base.proofs.CountedIdentifiers.{count, SameIds, same_length, same_least}
use Rattle.broker_spec.proofs.SoundEntries.{IsBelow, AllWait, InOrder}
use Rattle.broker_spec.proofs.SoundStarts.{busy_waits}
use Rattle.broker_base.proofs.flights.IdentifiersInFlight.{append_none, same_ids}
use Rattle.broker_base.proofs.flights.StartsInFlight.{same_next, moved, released_started}
use Rattle.broker_spec.proofs.EntriesStartedBefore.{StartedBefore, before_below}

-- ---- what starts

earlier : (start n : ℕ) → start < n → (start == n) ≡ false
earlier start n h = grind arith

this_place : (n : ℕ) → (n == n) ≡ true
this_place n = grind arith

pub none_started : (x : ConnectionName) (n : ℕ) (es : List Entry) → AllWait es → all_started x n es ≡ []
none_started x n [] h = refl
none_started x n (Entry.Queued made p ∷ es) h = none_started x n es h
none_started x n (Entry.Sent made p id start ∷ es) h = absurd h
none_started x n (Entry.Released made p id start release ∷ es) h = absurd h
none_started x n (Entry.Done made p id start release finish ∷ es) h = absurd h

pub waits_started : (x : ConnectionName) (w n : ℕ) (ids : List ℕ) (fs : List Flight) (es : List Entry) → AllWait es → SameIds (ids_of fs) ids →
    all_started x n (start_all w n ids es) ≡ map (Send x) (fill_sends w fs (waiting_of es))
waits_started x w n ids fs [] h same = refl
waits_started x w n ids fs (Entry.Queued made p ∷ es) h same =
    by (nat_lt (length ids) w) (waits_started x w n (least_free ids ∷ ids) (fs ++ started_flight fs p ∷ []) es h (same_next fs ids p same))
    ∙ ap (λ k. map (Send x) (if nat_lt k w then packets.Publish (publish_for false (least_free (ids_of fs)) p) ∷ fill_sends w (fs ++ started_flight fs p ∷ []) (waiting_of es) else []))
    (sym (same_length (ids_of fs) ids same) ∙ length-map fs (λ (flight : Flight). flight.0))
  where
    by : (b : Bool) → all_started x n (start_all w n (least_free ids ∷ ids) es) ≡ map (Send x) (fill_sends w (fs ++ started_flight fs p ∷ []) (waiting_of es)) →
        all_started x n (if b then Entry.Sent made p (least_free ids) n ∷ start_all w n (least_free ids ∷ ids) es else Entry.Queued made p ∷ es)
        ≡ map (Send x) (if b then packets.Publish (publish_for false (least_free (ids_of fs)) p) ∷ fill_sends w (fs ++ started_flight fs p ∷ []) (waiting_of es) else [])
    by true e = rw (this_place n) (ap₂ (λ id answers. publish_output x false id p ∷ answers) (sym (same_least (ids_of fs) ids same)) e)
    by false e = none_started x n es h
waits_started x w n ids fs (Entry.Sent made p id start ∷ es) h same = absurd h
waits_started x w n ids fs (Entry.Released made p id start release ∷ es) h same = absurd h
waits_started x w n ids fs (Entry.Done made p id start release finish ∷ es) h same = absurd h

pub starts_sent : (x : ConnectionName) (w n : ℕ) (ids : List ℕ) (fs : List Flight) (es : List Entry) → InOrder es → StartedBefore n es → SameIds (ids_of fs) (busy_ids es ++ ids) →
    all_started x n (start_all w n ids es) ≡ map (Send x) (fill_sends w fs (waiting_of es))
starts_sent x w n ids fs [] h before same = refl
starts_sent x w n ids fs (Entry.Queued made p ∷ es) h before same =
    waits_started x w n ids fs (Entry.Queued made p ∷ es) h (λ test. same test ∙ ap (λ xs. count test (xs ++ ids)) (busy_waits es h))
starts_sent x w n ids fs (Entry.Sent made p id start ∷ es) h before same =
    rw (earlier start n before.0) (starts_sent x w n (id ∷ ids) fs es h before.1 (λ test. same test ∙ moved test id (busy_ids es) ids))
starts_sent x w n ids fs (Entry.Released made p id start release ∷ es) h before same =
    starts_sent x w n (id ∷ ids) fs es h before (λ test. same test ∙ moved test id (busy_ids es) ids)
starts_sent x w n ids fs (Entry.Done made p id start release finish ∷ es) h before same = starts_sent x w n ids fs es h before same

-- ---- what is sent again

again_started : (x : ConnectionName) (w n : ℕ) (ids : List ℕ) (es : List Entry) → flat_map (repeated_output x n) (start_all w n ids es) ≡ flat_map (repeated_output x n) es
again_started x w n ids [] = refl
again_started x w n ids (Entry.Queued made p ∷ es) =
    elim (nat_lt (length ids) w) as (λ (b : Bool). flat_map (repeated_output x n) (if b then Entry.Sent made p (least_free ids) n ∷ start_all w n (least_free ids ∷ ids) es else Entry.Queued made p ∷ es) ≡ flat_map (repeated_output x n) es) [
      | true ↦ rw (this_place n) (again_started x w n (least_free ids ∷ ids) es)
      | false ↦ refl
    ]
again_started x w n ids (Entry.Sent made p id start ∷ es) = ap (λ answers. repeated_output x n (Entry.Sent made p id start) ++ answers) (again_started x w n (id ∷ ids) es)
again_started x w n ids (Entry.Released made p id start release ∷ es) = again_started x w n (id ∷ ids) es
again_started x w n ids (Entry.Done made p id start release finish ∷ es) = again_started x w n ids es

anew_by : (b : Bool) (id : ℕ) (p : Publication) → sent_anew id (if b then waits_for.Puback p else waits_for.Pubrec p) ≡ packets.Publish (publish_for true id p)
anew_by true id p = refl
anew_by false id p = refl

again_sent : (x : ConnectionName) (n : ℕ) (es : List Entry) → StartedBefore n es → flat_map (repeated_output x n) es ≡ map (Send x) (resend (sent_flights es))
again_sent x n [] h = refl
again_sent x n (Entry.Queued made p ∷ es) h = again_sent x n es h
again_sent x n (Entry.Sent made p id start ∷ es) h =
    rw (earlier start n h.0) (ap₂ (λ packet answers. Send x packet ∷ answers) (sym (anew_by (is_qos1 p.qos) id p)) (again_sent x n es h.1))
again_sent x n (Entry.Released made p id start release ∷ es) h = again_sent x n es h
again_sent x n (Entry.Done made p id start release finish ∷ es) h = again_sent x n es h

pubrels : (x : ConnectionName) (ids : List ℕ) → map (λ id. Send x (packets.Pubrel id)) ids ≡ map (Send x) (resend (map released_flight ids))
pubrels x [] = refl
pubrels x (id ∷ ids) = ap (λ answers. Send x (packets.Pubrel id) ∷ answers) (pubrels x ids)

pub resent_is : (x : ConnectionName) (w n : ℕ) (es : List Entry) → IsBelow n es → InOrder es →
    resent_outputs x n (start_all w n [] es) ≡ map (Send x) (resend (flights_below n es) ++ fill_sends w (flights_below n es) (waiting_of es))
resent_is x w n es below order =
    ap₂ (λ xs ys. xs ++ ys)
    (ap₂ (λ xs ys. xs ++ ys)
    (ap (map (λ id. Send x (packets.Pubrel id))) (released_started n w n [] es) ∙ pubrels x (released_below n es))
    (again_started x w n [] es ∙ again_sent x n es (before_below n es below))
    ∙ sym (ap (map (Send x)) (map-append (λ (flight : Flight). sent_anew flight.0 flight.1) (map released_flight (released_below n es)) (sent_flights es))
    ∙ map-append (Send x) (resend (map released_flight (released_below n es))) (resend (sent_flights es))))
    (starts_sent x w n [] (flights_below n es) es order (before_below n es below)
    (λ test. same_ids n es below test ∙ ap (count test) (sym (append_none (busy_ids es)))))
    ∙ sym (map-append (Send x) (resend (flights_below n es)) (fill_sends w (flights_below n es) (waiting_of es)))
