-- One client's session (MQTT 3.1.2.4, 4.1): the value of a `Session` in contracts.
-- A session has three parts that do not depend on each other: subscriptions, each filter once, in
-- the order of the first grant; the identifiers of received QoS 2 publications without a PUBREL,
-- ascending; and the queue. The order of each part is part of the value, because it is observable:
-- subscriptions in the bytes of a snapshot, the queue in the order of sending. What a call does to
-- a part is a function on lists, so the same definitions serve the broker's step, its meaning
-- (where an entry is Queued, Sent, Released or Done) and the code. Done entries are not kept, a
-- queued one is its publication alone, and a released one its identifier alone.
use Rattle.std.specs.Prelude.{ℕ, List, []}
use Rattle.session_base.specs.Subscriptions.{GrantedSubscription}
use Rattle.session_base.specs.Queue.{Flight, Queue, empty_queue}
use Rattle.session_base.specs.declared.limits.TheConstants.{MAX_ENTRIES, MAX_SUBSCRIPTIONS}

-- a session's subscriptions, the identifiers of received QoS 2 publications without a PUBREL, in
-- ascending order, and the queue
pub record SessionState : Type 0 where
  pub subscriptions : List GrantedSubscription
  pub received : List ℕ
  pub queue : Queue

-- the most subscriptions of a session
abbrev pub max_subscriptions : ℕ
max_subscriptions = MAX_SUBSCRIPTIONS

-- the most entries of a session, in flight and waiting together
abbrev pub max_entries : ℕ
max_entries = MAX_ENTRIES

-- a session with nothing in it
abbrev pub empty_session : SessionState
empty_session = record { subscriptions = []; received = []; queue = empty_queue }

-- a session with these subscriptions, and the rest as it was
abbrev pub with_granted : List GrantedSubscription → SessionState → SessionState
with_granted filters old =
    record { subscriptions = filters; received = old.received; queue = old.queue }

-- a session with these received identifiers, and the rest as it was
abbrev pub with_received : List ℕ → SessionState → SessionState
with_received ids old =
    record { subscriptions = old.subscriptions; received = ids; queue = old.queue }

-- a session with this queue, and the rest as it was
abbrev pub with_queue : Queue → SessionState → SessionState
with_queue queue old =
    record { subscriptions = old.subscriptions; received = old.received; queue = queue }

-- a queue with these entries in flight, and the rest as it was
abbrev pub with_flights : List Flight → Queue → Queue
with_flights flights old = record { in_flight = flights; waiting = old.waiting }
