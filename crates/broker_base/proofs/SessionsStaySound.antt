-- A step keeps each session sound: each filter once, received identifiers rising, those in flight distinct, released
-- entries first, and a clean session connected.
use Rattle.std.proofs.Common.{◌≡◌, ℕ, Bool, true, false, not, ◌&&◌, ◌||◌, if◌then◌else◌, Option, Some, None, List, [], ◌∷◌, map, refl}
use Rattle.std.specs.Prelude.{is_some}
use Rattle.std.specs.Ordering.{nat_cmp}
use Rattle.std.specs.List.Sorted.{IsStrictlySortedBy}
use Rattle.packet.specs.declared.delivery.Delivery.{Delivery}
use Rattle.packet.specs.declared.delivery.Delivery.TheVariants as deliveries
use Rattle.packet.specs.declared.packet.Packet.TheVariants as packets
use Rattle.session_base.specs.Identifiers.{without_id}
use Rattle.session_base.specs.Subscriptions.{GrantedSubscription, with_subscription, with_subscriptions, without_filter, without_filters}
use Rattle.session_base.specs.KeepingTheorems.{AreFiltersApart}
use Rattle.session_base.proofs.FiltersApart.{filters_stay_apart}
use Rattle.session_base.proofs.ReceivedRise.{received_rise}
use Rattle.broker_spec.specs.Subscriptions.{as_granted, granted_of, subscriptions_after}
use Rattle.broker_spec.specs.Received.{receives, received_by}
use Rattle.retained.specs.Retained.{RetainedTopics}
use Rattle.session_base.specs.declared.publication.Publication.{Publication}
use Rattle.session_base.specs.Publication.{is_answered}
use Rattle.lists.specs.Lists.{IsDistinct}
use Rattle.session_base.specs.OrderTheorems.{IsReleasedFirst}
use Rattle.session_base.specs.Queue.{Flight, Queue, ids_of, on_puback, on_pubrec, on_pubcomp, enqueue, fill, filled}
use Rattle.session_base.specs.Copies.{copies_left}
use Rattle.session_base.proofs.IdentifiersOfFills.{fill_apart}
use Rattle.session_base.proofs.IdentifiersStayApart.{answers_keep_apart}
use Rattle.session_base.proofs.OrderInFlight.{released_first}
use Rattle.broker_spec.specs.Connection.{ConnectionName}
use Rattle.broker_spec.specs.Place.{Client, same_client, Mark, Place, Limits, only_if}
use Rattle.broker_spec.specs.Sessions.{accepts, expels, ends_any}
use Rattle.broker_base.specs.ClientSession.{ClientSession}
use Rattle.broker_base.specs.SessionStep.{copies_with, filled_on, answered_queue, copied_queue, session_on, session_anew, session_resumed, session_connected, session_by, session_touched}
use Rattle.broker_base.specs.State.{State}
use Rattle.broker_base.specs.Decisions.{place_in}
use Rattle.broker_base.specs.Step.{touches, session_after, window_after, step}
use Rattle.broker_base.specs.StateTheorems.{IsSoundSession, AllSound}
use Rattle.broker_spec.specs.declared.command.Command.{Command}
use Rattle.broker_spec.specs.declared.command.Command.TheVariants as commands
use Rattle.broker_base.proofs.RowsKeep.{If, all_left, all_with}

-- ---- a queue

-- its identifiers are distinct, and its released entries first
abbrev pub Flies : List Flight → Type 0
Flies fs = IsDistinct (ids_of fs) × IsReleasedFirst fs

filled_flies : (w : ℕ) (fs : List Flight) (ps : List Publication) → Flies fs → Flies (fill w fs ps).in_flight
filled_flies w fs ps h = (fill_apart w fs ps h.0, (released_first fs h.1).3 w ps)

on_flies : (w : ℕ) (connection : Option ConnectionName) (fs : List Flight) (ps : List Publication) → Flies fs → Flies (filled_on connection w fs ps).in_flight
on_flies w (Some x) fs ps h = filled_flies w fs ps h
on_flies w None fs ps h = h

one_of : (b : Bool) (q r : Queue) → Flies q.in_flight → Flies r.in_flight → Flies (if b then q else r).in_flight
one_of true q r h k = h
one_of false q r h k = k

answer_flies : (w : ℕ) (command : Command) (mark : Mark) (c : Client) (connection : Option ConnectionName) (q : Queue) → Flies q.in_flight →
    Flies (answered_queue w command mark c connection q).in_flight
answer_flies w (commands.Packet y (packets.Puback i)) (Mark.Handled d) c connection q h =
    one_of (same_client d c) (filled_on connection w (on_puback i q.in_flight) q.waiting) q
    (on_flies w connection (on_puback i q.in_flight) q.waiting ((answers_keep_apart i q.in_flight h.0).0, (released_first q.in_flight h.1).0 i)) h
answer_flies w (commands.Packet y (packets.Pubrec i)) (Mark.Handled d) c connection q h =
    one_of (same_client d c) (record { in_flight = on_pubrec i q.in_flight; waiting = q.waiting }) q
    ((answers_keep_apart i q.in_flight h.0).1, (released_first q.in_flight h.1).1 i) h
answer_flies w (commands.Packet y (packets.Pubcomp i)) (Mark.Handled d) c connection q h =
    one_of (same_client d c) (filled_on connection w (on_pubcomp i q.in_flight) q.waiting) q
    (on_flies w connection (on_pubcomp i q.in_flight) q.waiting ((answers_keep_apart i q.in_flight h.0).2, (released_first q.in_flight h.1).2 i)) h
answer_flies w command mark c connection q h = h

copies_fly : (w : ℕ) (copies : List Publication) (q : Queue) → Flies q.in_flight → Flies (copies_left w copies q).in_flight
copies_fly w [] q h = h
copies_fly w (p ∷ copies) q h =
    elim (is_answered p.qos) as (λ (b : Bool). Flies (if b then copies_left w copies (filled w (enqueue p q)) else copies_left w copies q).in_flight) [
      | true ↦ copies_fly w copies (filled w (enqueue p q)) (filled_flies w (enqueue p q).in_flight (enqueue p q).waiting h)
      | false ↦ copies_fly w copies q h
    ]

copied_fly : (w : ℕ) (connection : Option ConnectionName) (copies : List Publication) (q : Queue) → Flies q.in_flight → Flies (copied_queue w connection copies q).in_flight
copied_fly w (Some x) copies q h = copies_fly w copies q h
copied_fly w None copies q h = h

-- ---- filters and received identifiers

granted_apart : (new held : List GrantedSubscription) → AreFiltersApart held → AreFiltersApart (with_subscriptions new held)
granted_apart [] held h = h
granted_apart (one ∷ more) held h = granted_apart more (with_subscription one held) ((filters_stay_apart held h).0 one)

given_up_apart : (given_up : List (List ℕ)) (held : List GrantedSubscription) → AreFiltersApart held → AreFiltersApart (without_filters given_up held)
given_up_apart [] held h = h
given_up_apart (one ∷ more) held h = given_up_apart more (without_filter one held) ((filters_stay_apart held h).1 one)

filters_if : (b : Bool) (held others : List GrantedSubscription) → AreFiltersApart held → AreFiltersApart others → AreFiltersApart (if b then held else others)
filters_if true held others h k = h
filters_if false held others h k = k

subscribed_apart : (command : Command) (mark : Mark) (c : Client) (held : List GrantedSubscription) → AreFiltersApart held → AreFiltersApart (subscriptions_after command mark c held)
subscribed_apart (commands.Packet x (packets.Subscribe s)) (Mark.Granted d which) c held h =
    filters_if (same_client d c) (with_subscriptions (map as_granted (granted_of s.filters which)) held) held (granted_apart (map as_granted (granted_of s.filters which)) held h) h
subscribed_apart (commands.Packet x (packets.Unsubscribe u)) (Mark.Handled d) c held h =
    filters_if (same_client d c) (without_filters u.filters held) held (given_up_apart u.filters held h) h
subscribed_apart _ _ c held h = h

abbrev pub Rises : List ℕ → Type 0
Rises ids = IsStrictlySortedBy nat_cmp ids

ids_if : (b : Bool) (ids others : List ℕ) → Rises ids → Rises others → Rises (if b then ids else others)
ids_if true ids others h k = h
ids_if false ids others h k = k

delivery_rises : (delivery : Delivery) (ids : List ℕ) → Rises ids → Rises (receives delivery ids)
delivery_rises (deliveries.ExactlyOnce dup id) ids h = (received_rise id ids h).0
delivery_rises (deliveries.AtLeastOnce dup id) ids h = h
delivery_rises deliveries.AtMostOnce ids h = h

received_rises : (command : Command) (mark : Mark) (c : Client) (ids : List ℕ) → Rises ids → Rises (received_by command mark c ids)
received_rises (commands.Packet x (packets.Publish p)) (Mark.Taken d) c ids h = ids_if (same_client d c) (receives p.delivery ids) ids (delivery_rises p.delivery ids h) h
received_rises (commands.Packet x (packets.Pubrel id)) (Mark.Handled d) c ids h = ids_if (same_client d c) (without_id id ids) ids ((received_rise id ids h).1) h
received_rises _ _ c ids h = h

-- ---- a session

sound_on : (w : ℕ) (place : Place) (content : RetainedTopics) (c : Client) (connection : Option ConnectionName) (old : ClientSession) → (old.clean ≡ true → is_some connection ≡ true) → IsSoundSession old →
    IsSoundSession (session_on w place content c connection old)
sound_on w place content c connection old served h =
    let k : Flies (session_on w place content c connection old).state.queue.in_flight
    = copied_fly w connection (copies_with place.command place.mark content c old.state.subscriptions) (answered_queue w place.command place.mark c connection old.state.queue)
    (answer_flies w place.command place.mark c connection old.state.queue (h.identifiers, h.released_first)) in
    record {
      filters = subscribed_apart place.command place.mark c old.state.subscriptions h.filters;
      received = received_rises place.command place.mark c old.state.received h.received;
      identifiers = k.0;
      released_first = k.1;
      served = served;
    }

sound_anew : (opened : ConnectionName × Bool) → IsSoundSession (session_anew opened)
unfolding IsStrictlySortedBy
sound_anew opened = record { filters = tt; received = tt; identifiers = tt; released_first = tt; served = λ clean. refl }

sound_connected : (w : ℕ) (opened : ConnectionName × Bool) (old : Option ClientSession) → If IsSoundSession old → IsSoundSession (session_connected w opened old)
sound_connected w opened None h = sound_anew opened
sound_connected w opened (Some old) h =
    elim (opened.1 || old.clean) as (λ (b : Bool). IsSoundSession (if b then session_anew opened else session_resumed w opened old)) [
      | true ↦ sound_anew opened
      | false ↦
          let k = filled_flies w old.state.queue.in_flight old.state.queue.waiting (h.identifiers, h.released_first) in
          record { filters = h.filters; received = h.received; identifiers = k.0; released_first = k.1; served = λ clean. refl }
    ]

sound_only : (b : Bool) (kept : ClientSession) → (b ≡ true → IsSoundSession kept) → If IsSoundSession (only_if b (Some kept))
sound_only true kept h = h refl
sound_only false kept h = tt

-- a clean session that is kept keeps its connection
still_served : (expelled clean over : Bool) (connection : Option ConnectionName) → not (expelled || (clean && over)) ≡ true → (clean ≡ true → is_some connection ≡ true) →
    clean ≡ true → is_some (only_if (not over) connection) ≡ true
still_served true clean over connection kept h e = absurd (cc)
still_served false true true connection kept h e = absurd (cc)
still_served false true false connection kept h e = h e
still_served false false over connection kept h e = absurd (cc)

sound_by : (w : ℕ) (place : Place) (content : RetainedTopics) (c : Client) (opened : Option (ConnectionName × Bool)) (old : ClientSession) → IsSoundSession old →
    If IsSoundSession (session_by w place content c opened (Some old))
sound_by w place content c (Some opened) old h = sound_connected w opened (Some old) h
sound_by w place content c None old h =
    sound_only (not (expels place.command c || (old.clean && ends_any place c old.connection))) (session_on w place content c (only_if (not (ends_any place c old.connection)) old.connection) old)
    (λ kept. sound_on w place content c (only_if (not (ends_any place c old.connection)) old.connection) old
    (still_served (expels place.command c) old.clean (ends_any place c old.connection) old.connection kept h.served) h)

sound_row : (w : ℕ) (place : Place) (content : RetainedTopics) (c : Client) (kept : ClientSession) → IsSoundSession kept → If IsSoundSession (session_after w place content c kept)
sound_row w place content c kept h =
    elim (touches place c kept) as (λ (b : Bool). If IsSoundSession (if b then session_touched w place content c (Some kept) else Some kept)) [
      | true ↦ sound_by w place content c (accepts place.command place.mark c) kept h
      | false ↦ h
    ]

pub sessions_stay_sound : (limits : Limits) (later : ℕ) (state : State) (command : Command) → AllSound state.sessions → AllSound (step limits later state command).0.sessions
sessions_stay_sound limits later state command h =
    all_with IsSoundSession IsSoundSession (window_after later command state.window) (place_in limits state command) state.retained state.sessions command (place_in limits state command).mark
    (λ opened old k. sound_connected (window_after later command state.window) opened old k) h
    (all_left IsSoundSession IsSoundSession (window_after later command state.window) (place_in limits state command) state.retained
    (λ c kept k. sound_row (window_after later command state.window) (place_in limits state command) state.retained c kept k) state.sessions h)
