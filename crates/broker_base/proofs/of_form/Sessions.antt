-- A place leaves a session in its range, if there is room in it for what the place makes.
use Rattle.std.proofs.Common.{◌≡◌, ℕ, ◌+◌, ◌≤◌, ◌<◌, ◌^◌, Bool, true, false, not, ◌&&◌, ◌||◌, if◌then◌else◌, Option, Some, None, List, length, refl, subst, arith}
use Rattle.std.specs.Prelude.{IsTrue}
use Rattle.std.specs.List.{AllByRecursion}
use Rattle.packet.specs.declared.packet.Packet.TheVariants as packets
use Rattle.packet_base.specs.ClientId.{is_client}
use Rattle.retained.specs.Retained.{RetainedTopics}
use Rattle.lists.specs.Lists.{IsDistinct}
use Rattle.session_base.specs.declared.publication.Publication.{Publication}
use Rattle.session_base.specs.Queue.{Queue, ids_of, on_puback, on_pubcomp}
use Rattle.broker_spec.specs.Connection.{ConnectionName, IsConnectionName}
use Rattle.broker_spec.specs.Place.{Client, same_client, Mark, Place, Limits, only_if}
use Rattle.broker_spec.specs.Sessions.{accepts, expels, ends_any}
use Rattle.broker_spec.specs.Subscriptions.{subscriptions_after}
use Rattle.broker_spec.specs.Entries.{queued}
use Rattle.broker_spec.specs.Logged.{IsBrokerCommand}
use Rattle.broker_spec.specs.declared.command.Command.{Command}
use Rattle.broker_spec.specs.declared.command.Command.TheVariants as commands
use Rattle.broker_base.specs.ClientSession.{ClientSession}
use Rattle.broker_base.specs.SessionStep.{copies_with, filled_on, answered_queue, copied_queue, session_on, session_anew, session_resumed, session_connected, session_by, session_touched}
use Rattle.broker_base.specs.Step.{touches, session_after}
use Rattle.broker_base.specs.StateTheorems.{IsSoundSession}
use Rattle.session_base.specs.InRange.{CanBeSent, IsQueue}
use Rattle.broker_base.specs.form.InRange.{IsRetained, IsNamed, IsSession}
use Rattle.broker_base.proofs.of_form.Queues.{wider, fill_in_range, puback_in_range, pubrec_in_range, pubcomp_in_range, copies_in_range, waiting_in_range}
use Rattle.broker_base.proofs.of_form.Filters.{filters_in_range, received_in_range, copies_can_be_sent}

-- what a place asks of a session: room for the entries that it makes, and no filter too many
pub record HasRoom (limits : Limits) (place : Place) (content : RetainedTopics) (c : Client) (old : ClientSession) : Type 0 where
  pub entries : length old.state.queue.in_flight + length old.state.queue.waiting
      + length (queued (copies_with place.command place.mark content c old.state.subscriptions)) ≤ limits.entries
  pub filters : length (subscriptions_after place.command place.mark c old.state.subscriptions) ≤ limits.subscriptions

-- a session in its range, if there is one
abbrev pub IfSession : Limits → Client → Option ClientSession → Type 0
IfSession limits c (Some kept) = IsSession limits c kept
IfSession limits c None = Unit {0}

-- ---- its queue

on_connection : (w n : ℕ) (connection : Option ConnectionName) (q : Queue) → n < 2 ^ 16 → IsQueue n q →
    IsQueue n (filled_on connection w q.in_flight q.waiting)
on_connection w n (Some x) q m h = fill_in_range w n q m h
on_connection w n None q m h = h

queue_if : (n : ℕ) (b : Bool) (q r : Queue) → IsQueue n q → IsQueue n r → IsQueue n (if b then q else r)
queue_if n true q r h k = h
queue_if n false q r h k = k

answered : (w n : ℕ) (command : Command) (mark : Mark) (c : Client) (connection : Option ConnectionName) (q : Queue) → n < 2 ^ 16 →
    IsBrokerCommand command → IsDistinct (ids_of q.in_flight) → IsQueue n q → IsQueue n (answered_queue w command mark c connection q)
answered w n (commands.Packet y (packets.Puback id)) (Mark.Handled d) c connection q m k apart h =
    queue_if n (same_client d c) _ q
    (on_connection w n connection (record { in_flight = on_puback id q.in_flight; waiting = q.waiting }) m (puback_in_range n id q h)) h
answered w n (commands.Packet y (packets.Pubrec id)) (Mark.Handled d) c connection q m k apart h =
    queue_if n (same_client d c) _ q (pubrec_in_range n id q k.1 apart h) h
answered w n (commands.Packet y (packets.Pubcomp id)) (Mark.Handled d) c connection q m k apart h =
    queue_if n (same_client d c) _ q
    (on_connection w n connection (record { in_flight = on_pubcomp id q.in_flight; waiting = q.waiting }) m (pubcomp_in_range n id q h)) h
answered w n command mark c connection q m k apart h = h

copied : (w n : ℕ) (connection : Option ConnectionName) (copies : List Publication) (q : Queue) → n + length (queued copies) < 2 ^ 16 →
    AllByRecursion CanBeSent copies → IsQueue n q → IsQueue (n + length (queued copies)) (copied_queue w connection copies q)
copied w n (Some x) copies q m k h = copies_in_range w n copies q m k h
copied w n None copies q m k h = waiting_in_range n copies q k h

exact : (limit : ℕ) (q : Queue) → IsQueue limit q → IsQueue (length q.in_flight + length q.waiting) q
exact limit q h = record { in_flight = h.in_flight; waiting = h.waiting; few = omega arith }

-- ---- a session that continues

goes_on : (w : ℕ) (limits : Limits) (place : Place) (content : RetainedTopics) (c : Client) (connection : Option ConnectionName) (old : ClientSession) →
    limits.entries < 2 ^ 16 → IsBrokerCommand place.command → AllByRecursion IsRetained content → IsNamed connection →
    IsSoundSession old → HasRoom limits place content c old → IsSession limits c old →
    IsSession limits c (session_on w place content c connection old)
goes_on w limits place content c connection old m k r named sound room h =
    let few = room.entries in
    let copies = copies_with place.command place.mark content c old.state.subscriptions in
    let total = length old.state.queue.in_flight + length old.state.queue.waiting in
    record {
      client = h.client;
      connection = named;
      filters = filters_in_range place.command place.mark c old.state.subscriptions k h.filters;
      few_filters = room.filters;
      received = received_in_range place.command place.mark c old.state.received k h.received;
      queue =
          wider (total + length (queued copies)) limits.entries _ few
          (copied w total connection copies _ (omega (arith, few, m)) (copies_can_be_sent place.command place.mark content c old.state.subscriptions k r)
          (answered w total place.command place.mark c connection old.state.queue (omega (arith, few, m)) k sound.identifiers (exact limits.entries old.state.queue h.queue)));
    }

-- ---- a session of an accepted Connect

anew : (limits : Limits) (c : Client) (opened : ConnectionName × Bool) → IsConnectionName opened.0 → IsTrue (is_client c) → IsSession limits c (session_anew opened)
anew limits c opened named client = record {
  client = client;
  connection = named;
  filters = tt;
  few_filters = omega arith;
  received = tt;
  queue = record { in_flight = tt; waiting = tt; few = omega arith };
}

pub connected : (w : ℕ) (limits : Limits) (c : Client) (opened : ConnectionName × Bool) (old : Option ClientSession) → limits.entries < 2 ^ 16 →
    IsConnectionName opened.0 → IsTrue (is_client c) → IfSession limits c old → IsSession limits c (session_connected w opened old)
connected w limits c opened None m named client h = anew limits c opened named client
connected w limits c opened (Some old) m named client h =
    elim (opened.1 || old.clean) as (λ (b : Bool). IsSession limits c (if b then session_anew opened else session_resumed w opened old)) [
      | true ↦ anew limits c opened named client
      | false ↦ record {
        client = client;
        connection = named;
        filters = h.filters;
        few_filters = h.few_filters;
        received = h.received;
        queue = fill_in_range w limits.entries old.state.queue m h.queue;
      }
    ]

-- ---- a session after a place

accepted_named : (command : Command) (mark : Mark) (c : Client) (opened : ConnectionName × Bool) → IsBrokerCommand command →
    accepts command mark c ≡ Some opened → IsConnectionName opened.0
accepted_named (commands.Connect x d clean) Mark.Accepted c opened k e = by (same_client d c) e
  where
    name : Option (ConnectionName × Bool) → ConnectionName
    name (Some o) = o.0
    name None = x

    by : (b : Bool) → only_if b (Some (x, clean)) ≡ Some opened → IsConnectionName opened.0
    by true e = subst (λ (o : Option (ConnectionName × Bool)). IsConnectionName (name o)) e k.0
    by false e = absurd (cc)
accepted_named _ _ c opened k e = absurd (cc)

named_left : (b : Bool) (connection : Option ConnectionName) → IsNamed connection → IsNamed (only_if b connection)
named_left true connection h = h
named_left false connection h = tt

session_if : (limits : Limits) (c : Client) (b : Bool) (kept : ClientSession) → IsSession limits c kept → IfSession limits c (only_if b (Some kept))
session_if limits c true kept h = h
session_if limits c false kept h = tt

after_by : (w : ℕ) (limits : Limits) (place : Place) (content : RetainedTopics) (c : Client) (opened : Option (ConnectionName × Bool)) (old : ClientSession) →
    ((a : ConnectionName × Bool) → opened ≡ Some a → IsConnectionName a.0) →
    limits.entries < 2 ^ 16 → IsBrokerCommand place.command → AllByRecursion IsRetained content →
    IsSoundSession old → HasRoom limits place content c old → IsSession limits c old →
    IfSession limits c (session_by w place content c opened (Some old))
after_by w limits place content c (Some opened) old named m k r sound room h =
    connected w limits c opened (Some old) m (named opened refl) h.client h
after_by w limits place content c None old named m k r sound room h =
    session_if limits c (not (expels place.command c || (old.clean && ends_any place c old.connection))) _
    (goes_on w limits place content c (only_if (not (ends_any place c old.connection)) old.connection) old m k r
    (named_left (not (ends_any place c old.connection)) old.connection h.connection) sound room h)

pub session_in_range : (w : ℕ) (limits : Limits) (place : Place) (content : RetainedTopics) (c : Client) (old : ClientSession) →
    limits.entries < 2 ^ 16 → IsBrokerCommand place.command → AllByRecursion IsRetained content →
    IsSoundSession old → HasRoom limits place content c old → IsSession limits c old →
    IfSession limits c (session_after w place content c old)
session_in_range w limits place content c old m k r sound room h =
    elim (touches place c old) as (λ (b : Bool). IfSession limits c (if b then session_touched w place content c (Some old) else Some old)) [
      | true ↦
          after_by w limits place content c (accepts place.command place.mark c) old
          (λ a e. accepted_named place.command place.mark c a k e) m k r sound room h
      | false ↦ h
    ]
