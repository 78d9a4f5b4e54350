-- Copies that a loop adds to a connected client's session in parts, and a SUBSCRIBE filter by
-- filter (MQTT 3.8.4, 4.6).
use Rattle.std.specs.Prelude.{◌≡◌, ℕ, ◌-◌, Bool, true, false, not, ◌||◌, nat_lt, if◌then◌else◌}
use Rattle.std.specs.Prelude.{List, [], ◌∷◌, ◌++◌, length}
use Rattle.packet.specs.declared.packet.Packet.{Packet}
use Rattle.packet.specs.declared.subscribe.Subscription.{Subscription}
use Rattle.retained.specs.Retained.{RetainedTopics}
use Rattle.session_base.specs.declared.publication.Publication.{Publication}
use Rattle.session_base.specs.Publication.{is_answered}
use Rattle.session_base.specs.Session.{SessionState}
use Rattle.session_base.specs.Queue.{Queue, room}
use Rattle.session_base.specs.Copies.{copies_left}
use Rattle.session_base.specs.EntryPackets.{copies_sent}
use Rattle.broker_spec.specs.Place.{Limits}
use Rattle.broker_spec.specs.Subscriptions.{granted_of}
use Rattle.broker_spec.specs.Entries.{copies_for, copies_for_all, queued}
use Rattle.broker_spec.specs.Marks.{is_one_too_many, entries_for, grants}
use Rattle.broker_base.specs.rows.PacketTheorems.{subscribed_to}

-- copies that are added in two parts lead to the same session and send the same packets as all at
-- once
abbrev pub CopiesJoin : Type 0
CopiesJoin =
    (window : ℕ) → (copies more : List Publication) → (queue : Queue) →
    (copies_left window (copies ++ more) queue
    ≡ copies_left window more (copies_left window copies queue))
    × (copies_sent window (copies ++ more) queue
    ≡ copies_sent window copies queue ++ copies_sent window more (copies_left window copies queue))

-- each copy of QoS 1 or 2 takes one slot, whether it starts or waits
abbrev pub CopiesTakeRoom : Type 0
CopiesTakeRoom =
    (window limit : ℕ) → (copies : List Publication) → (queue : Queue) →
    room limit (copies_left window copies queue) ≡ room limit queue - length (queued copies)

-- if there is room for all copies, each finds room when its turn comes
abbrev pub CopiesFindRoom : Type 0
CopiesFindRoom =
    (window limit : ℕ) → (before : List Publication) → (publication : Publication) →
    (after : List Publication) → (queue : Queue) →
    nat_lt (room limit queue) (length (queued (before ++ publication ∷ after))) ≡ false →
    is_answered publication.qos ≡ true →
    nat_lt 0 (room limit (copies_left window before queue)) ≡ true

-- ---- filter by filter

-- whether this session grants a filter: it does not exceed the limit of subscriptions, and there is
-- room for its copies
abbrev pub is_granted_in : Limits → RetainedTopics → SessionState → Subscription → Bool
is_granted_in limits content session new =
    not
    (is_one_too_many limits session.subscriptions new
    || nat_lt (room limits.entries session.queue) (entries_for content new))

-- the session after one filter
abbrev pub subscribed_by : Limits → ℕ → RetainedTopics → SessionState → Subscription → SessionState
subscribed_by limits window content session new =
    if is_granted_in limits content session new then subscribed_to window content (new ∷ []) session
    else session

-- the packets that it is sent after one filter
abbrev pub sent_by : Limits → ℕ → RetainedTopics → SessionState → Subscription → List Packet
sent_by limits window content session new =
    if is_granted_in limits content session new
    then copies_sent window (copies_for content new) session.queue
    else []

-- which filters are granted, each by the session that those before it left
abbrev pub granted_in_turn : Limits → ℕ → RetainedTopics → SessionState → List Subscription →
    List Bool
granted_in_turn limits window content session (new ∷ more) =
    is_granted_in limits content session new
    ∷ granted_in_turn limits window content (subscribed_by limits window content session new) more
granted_in_turn limits window content session [] = []

-- the session after all filters of a SUBSCRIBE, one after another
abbrev pub subscribed_in_turn : Limits → ℕ → RetainedTopics → SessionState → List Subscription →
    SessionState
subscribed_in_turn limits window content session (new ∷ more) =
    subscribed_in_turn limits window content (subscribed_by limits window content session new) more
subscribed_in_turn limits window content session [] = session

-- the packets that are sent for all filters of a SUBSCRIBE, one after another
abbrev pub sent_in_turn : Limits → ℕ → RetainedTopics → SessionState → List Subscription →
    List Packet
sent_in_turn limits window content session (new ∷ more) =
    sent_by limits window content session new
    ++ sent_in_turn limits window content (subscribed_by limits window content session new) more
sent_in_turn limits window content session [] = []

-- one pass over the filters decides, subscribes and sends as the step at a SUBSCRIBE does
abbrev pub SubscribesInTurn : Type 0
SubscribesInTurn =
    (limits : Limits) → (window : ℕ) → (content : RetainedTopics) → (session : SessionState) →
    (filters : List Subscription) →
    let which = granted_in_turn limits window content session filters in
    (grants limits content session.subscriptions (room limits.entries session.queue) filters
    ≡ which)
    × (subscribed_to window content (granted_of filters which) session
    ≡ subscribed_in_turn limits window content session filters)
    × (copies_sent window (copies_for_all content (granted_of filters which)) session.queue
    ≡ sent_in_turn limits window content session filters)
