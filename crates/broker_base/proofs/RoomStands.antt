-- Room and refusal, read from the state, are those of the past.
use Rattle.std.proofs.Common.{◌≡◌, ℕ, ◌+◌, ◌-◌, Bool, ◌&&◌, ◌||◌, ◌==◌, if◌then◌else◌, Option, Some, None, List, [], ◌∷◌, length, filter, refl, ap, ap₂, ◌∙◌, sym, arith}
use Rattle.std.specs.Prelude.{option_map, is_some}
use Rattle.std.specs.List.{list_any}
use Rattle.std.proofs.lemmas.List.{length-map}
use Rattle.packet.specs.declared.delivery.Delivery.{Delivery}
use Rattle.packet.specs.declared.delivery.Delivery.TheVariants as deliveries
use Rattle.session_base.specs.declared.publication.Publication.{Publication}
use Rattle.session_base.specs.Queue.{Flight, ids_of, room}
use Rattle.broker_spec.specs.Place.{Client, Past, Limits}
use Rattle.broker_spec.specs.Sessions.{clean_session_of}
use Rattle.broker_spec.specs.Owner.{named}
use Rattle.broker_spec.specs.Subscriptions.{effective_qos}
use Rattle.broker_spec.specs.Received.{is_repeat}
use Rattle.broker_spec.specs.Retained.{is_retained_over}
use Rattle.broker_spec.specs.Entries.{Entry, is_unfinished}
use Rattle.broker_spec.specs.Readings.{waiting_of, busy_ids}
use Rattle.broker_spec.specs.Times.{entries_of, room_of}
use Rattle.broker_spec.specs.Marks.{is_queued_at, lacks_room, is_refused}
use Rattle.broker_base.specs.ClientSession.{flights_below, queue_of, client_session}
use Rattle.broker_base.specs.State.{keyed, table, state_of}
use Rattle.broker_base.specs.Decisions.{row_lacks_room, is_refused_in, repeats_taken}
use Rattle.session_base.proofs.CountedIdentifiers.{same_length}
use Rattle.broker_spec.proofs.SoundEntries.{Sound}
use Rattle.broker_base.proofs.flights.IdentifiersInFlight.{same_ids}
use Rattle.broker_base.proofs.KeptAfter.{kept_now}
use Rattle.broker_base.proofs.QueueAfter.{sound_entries}

-- ---- room

all_put : (es : List Entry) → length (busy_ids es) + length (waiting_of es) ≡ length (filter is_unfinished es)
all_put [] = refl
all_put (Entry.Queued made p ∷ es) = omega (arith, all_put es)
all_put (Entry.Sent made p id start ∷ es) = omega (arith, all_put es)
all_put (Entry.Released made p id start release ∷ es) = omega (arith, all_put es)
all_put (Entry.Done made p id start release finish ∷ es) = all_put es

held_is : (n : ℕ) (es : List Entry) → Sound n es → length (flights_below n es) + length (waiting_of es) ≡ length (filter is_unfinished es)
held_is n es s =
    ap (λ k. k + length (waiting_of es))
    (sym (length-map (flights_below n es) (λ (flight : Flight). flight.0)) ∙ same_length (ids_of (flights_below n es)) (busy_ids es) (same_ids n es s.below))
    ∙ all_put es

pub room_is : (limits : Limits) (past : Past) (c : Client) → room limits.entries (queue_of (length past) (entries_of limits past c)) ≡ room_of limits past c
room_is limits past c = ap (λ k. limits.entries - k) (held_is (length past) (entries_of limits past c) (sound_entries limits past c))

-- ---- publications

full_in : (limits : Limits) (past : Past) (p : Publication) (ds : List Client) →
    list_any (row_lacks_room limits p) (table (client_session limits past) ds) ≡ list_any (lacks_room limits past p) (filter (λ c. is_some (clean_session_of past c)) ds)
full_in limits past p [] = refl
full_in limits past p (d ∷ ds) = by (clean_session_of past d) (full_in limits past p ds)
  where
    by : (session : Option Bool) → list_any (row_lacks_room limits p) (table (client_session limits past) ds) ≡ list_any (lacks_room limits past p) (filter (λ c. is_some (clean_session_of past c)) ds) →
        list_any (row_lacks_room limits p) (keyed d (option_map (kept_now limits past d) session) (table (client_session limits past) ds))
        ≡ list_any (lacks_room limits past p) (if is_some session then d ∷ filter (λ c. is_some (clean_session_of past c)) ds else filter (λ c. is_some (clean_session_of past c)) ds)
    by None e = e
    by (Some clean) e = ap₂ (λ k b. (is_queued_at (effective_qos past d p) && (k == 0)) || b) (room_is limits past d) e

pub refuses_is : (limits : Limits) (past : Past) (p : Publication) → is_refused_in limits (state_of limits past) p ≡ is_refused limits past p
refuses_is limits past p = ap (λ b. b || is_retained_over limits past p) (full_in limits past p (named past))

pub again_is : (limits : Limits) (past : Past) (c : Client) (clean : Bool) (d : Delivery) → repeats_taken (kept_now limits past c clean) d ≡ is_repeat past c d
again_is limits past c clean (deliveries.ExactlyOnce dup id) = refl
again_is limits past c clean _ = refl
