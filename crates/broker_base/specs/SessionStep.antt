-- How one command changes a client's session (MQTT 3.1.2.4, 3.1.4, 3.3.5, 3.8.4, 4.3, 4.4, 4.6).
use Rattle.std.specs.Prelude.{ℕ, Bool, not, ◌&&◌, ◌||◌, if◌then◌else◌, List, [], Option, Some, None, option_map}
use Rattle.packet.specs.declared.packet.Packet.TheVariants as packets
use Rattle.retained.specs.Retained.{RetainedTopics}
use Rattle.session_base.specs.declared.publication.Publication.{Publication}
use Rattle.session_base.specs.Publication.{publication_of}
use Rattle.packet_base.specs.QoS.{lower_qos}
use Rattle.session_base.specs.Subscriptions.{GrantedSubscription, granted_qos}
use Rattle.session_base.specs.Session.{empty_session}
use Rattle.session_base.specs.Queue.{Flight, Queue, on_puback, on_pubrec, on_pubcomp, fill, filled}
use Rattle.session_base.specs.Copies.{copies_left, copies_waiting}
use Rattle.broker_spec.specs.Connection.{ConnectionName}
use Rattle.broker_spec.specs.Place.{Client, same_client, Mark, Place, only_if}
use Rattle.broker_spec.specs.Sessions.{accepts, expels, ends_any}
use Rattle.broker_spec.specs.Subscriptions.{granted_of, subscriptions_after}
use Rattle.broker_spec.specs.Received.{received_by}
use Rattle.broker_spec.specs.Entries.{copy_of, copies_for_all}
use Rattle.broker_base.specs.ClientSession.{ClientSession}
use Rattle.broker_spec.specs.declared.command.Command.{Command}
use Rattle.broker_spec.specs.declared.command.Command.TheVariants as commands

-- the copies that a command adds to a session with these subscriptions
abbrev pub copies_with : Command → Mark → RetainedTopics → Client → List GrantedSubscription →
    List Publication
copies_with (commands.Packet connection (packets.Publish publish)) (Mark.Taken sender)
    content client subscriptions =
    copy_of (publication_of publish) (option_map (lower_qos (publication_of publish).qos)
    (granted_qos (publication_of publish).topic subscriptions))
copies_with (commands.Packet connection (packets.Subscribe subscribe)) (Mark.Granted sender which)
    content client subscriptions =
    if same_client sender client
    then copies_for_all content (granted_of subscribe.filters which) else []
copies_with _ _ content client subscriptions = []

-- the queue after a fill, if the client is connected
abbrev pub filled_on : Option ConnectionName → ℕ → List Flight → List Publication → Queue
filled_on (Some connection) window flights waiting = fill window flights waiting
filled_on None window flights waiting = record { in_flight = flights; waiting = waiting }

-- the queue after an acknowledgement: after PUBACK and PUBCOMP, what may start starts (MQTT 4.6)
abbrev pub answered_queue : ℕ → Command → Mark → Client → Option ConnectionName → Queue → Queue
answered_queue window (commands.Packet name (packets.Puback id)) (Mark.Handled sender)
    client connection queue =
    if same_client sender client
    then filled_on connection window (on_puback id queue.in_flight) queue.waiting else queue
answered_queue window (commands.Packet name (packets.Pubrec id)) (Mark.Handled sender)
    client connection queue =
    if same_client sender client
    then record { in_flight = on_pubrec id queue.in_flight; waiting = queue.waiting } else queue
answered_queue window (commands.Packet name (packets.Pubcomp id)) (Mark.Handled sender)
    client connection queue =
    if same_client sender client
    then filled_on connection window (on_pubcomp id queue.in_flight) queue.waiting else queue
answered_queue window _ _ client connection queue = queue

-- the queue after copies are added: if the client is connected, what may start starts after each
abbrev pub copied_queue : ℕ → Option ConnectionName → List Publication → Queue → Queue
copied_queue window (Some connection) copies queue = copies_left window copies queue
copied_queue window None copies queue = copies_waiting copies queue

-- the session after any command except its client's accepted Connect, on this connection or none
abbrev pub session_on : ℕ → Place → RetainedTopics → Client → Option ConnectionName →
    ClientSession → ClientSession
session_on window place content client connection old =
    record {
      clean = old.clean;
      connection = connection;
      state = record {
        subscriptions = subscriptions_after place.command place.mark client old.state.subscriptions;
        received = received_by place.command place.mark client old.state.received;
        queue = copied_queue window connection
            (copies_with place.command place.mark content client old.state.subscriptions)
            (answered_queue window place.command place.mark client connection old.state.queue);
      };
    }

-- an empty session that begins on a connection
abbrev pub session_anew : ConnectionName × Bool → ClientSession
session_anew opened = record { clean = opened.1; connection = Some opened.0; state = empty_session }

-- a session that is resumed on a new connection; what may start starts
abbrev pub session_resumed : ℕ → ConnectionName × Bool → ClientSession → ClientSession
session_resumed window opened old =
    record {
      clean = opened.1;
      connection = Some opened.0;
      state = record {
        subscriptions = old.state.subscriptions;
        received = old.state.received;
        queue = filled window old.state.queue;
      };
    }

-- the session after its client's accepted Connect, which resumes an old one if neither is clean
abbrev pub session_connected : ℕ → ConnectionName × Bool → Option ClientSession → ClientSession
session_connected window opened None = session_anew opened
session_connected window opened (Some old) =
    if opened.1 || old.clean then session_anew opened else session_resumed window opened old

-- the session after any other command: it ends at an Expel, and a clean one with its connection
abbrev pub session_later : ℕ → Place → RetainedTopics → Client → Option ClientSession →
    Option ClientSession
session_later window place content client None = None
session_later window place content client (Some old) =
    only_if (not (expels place.command client || (old.clean
    && ends_any place client old.connection))) (Some (session_on window place content client
    (only_if (not (ends_any place client old.connection)) old.connection) old))

-- the session after a command, by the connection that the command opens for the client, if any
abbrev pub session_by : ℕ → Place → RetainedTopics → Client → Option (ConnectionName × Bool) →
    Option ClientSession → Option ClientSession
session_by window place content client (Some opened) old =
    Some (session_connected window opened old)
session_by window place content client None old = session_later window place content client old

-- the client's session after a place, with the window from then on, and what was retained before
abbrev pub session_touched : ℕ → Place → RetainedTopics → Client → Option ClientSession →
    Option ClientSession
session_touched window place content client old =
    session_by window place content client (accepts place.command place.mark client) old
