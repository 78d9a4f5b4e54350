-- The mark of a command, decided by the places below it (MQTT 3.1.4, 3.8.4, 4.3.3, 4.8).
use Rattle.std.specs.Prelude.{ℕ, ◌-◌, Bool, true, false, not, ◌&&◌, ◌||◌, ◌==◌, nat_lt, nat_le}
use Rattle.std.specs.Prelude.{if◌then◌else◌, List, [], ◌∷◌, length, Option, Some, None, is_some}
use Rattle.std.specs.List.{list_any}
use Rattle.packet_base.specs.declared.qos.QoS.{QoS}
use Rattle.packet.specs.declared.subscribe.Subscription.{Subscription}
use Rattle.packet.specs.declared.packet.Packet.{Packet}
use Rattle.packet.specs.declared.packet.Packet.TheVariants as packets
use Rattle.retained.specs.Retained.{RetainedTopics}
use Rattle.broker_spec.specs.Place.{Client, Mark, Past, Limits}
use Rattle.broker_spec.specs.Sessions.{clean_session_of}
use Rattle.broker_spec.specs.Owner.{clients, owner_of}
use Rattle.session_base.specs.declared.publication.Publication.{Publication}
use Rattle.session_base.specs.Publication.{publication_of, is_answered}
use Rattle.session_base.specs.Subscriptions.{GrantedSubscription, is_subscribed, with_subscription}
use Rattle.broker_spec.specs.Subscriptions.{as_granted, subscriptions_of, effective_qos}
use Rattle.broker_spec.specs.Received.{is_repeat}
use Rattle.broker_spec.specs.Retained.{retained_publications, is_retained_over}
use Rattle.broker_spec.specs.Entries.{copies_for, queued}
use Rattle.broker_spec.specs.Times.{room_of}
use Rattle.broker_spec.specs.declared.command.Command.{Command}
use Rattle.broker_spec.specs.declared.command.Command.TheVariants as commands

-- ---- publications

-- whether there is a QoS and it is 1 or 2
abbrev pub is_queued_at : Option QoS → Bool
is_queued_at (Some qos) = is_answered qos
is_queued_at None = false

-- whether a client's session would have to queue the publication but is full
abbrev pub lacks_room : Limits → Past → Publication → Client → Bool
lacks_room limits past publication client =
    is_queued_at (effective_qos past client publication) && (room_of limits past client == 0)

-- a publication is refused as a whole if some session has no room for it, or if retaining it would
-- exceed the topic limit
abbrev pub is_refused : Limits → Past → Publication → Bool
is_refused limits past publication =
    list_any (lacks_room limits past publication) (clients past)
    || is_retained_over limits past publication

-- ---- filters of a SUBSCRIBE

-- whether the filter would exceed the limit of subscriptions: an identical one is only replaced
abbrev pub is_one_too_many : Limits → List GrantedSubscription → Subscription → Bool
is_one_too_many limits granted new =
    not (is_subscribed new.filter granted) && nat_le limits.subscriptions (length granted)

-- how many entries a subscription adds: one for each matching retained publication at QoS 1 or 2
abbrev pub entries_for : RetainedTopics → Subscription → ℕ
entries_for content new = length (queued (copies_for content new))

-- which filters are granted, in order, with the subscriptions so far and the room that is left
abbrev pub grants : Limits → RetainedTopics → List GrantedSubscription → ℕ →
    List Subscription → List Bool
grants limits content granted room (new ∷ more) =
    if is_one_too_many limits granted new || nat_lt room (entries_for content new)
    then false ∷ grants limits content granted room more
    else true ∷ grants limits content (with_subscription (as_granted new) granted)
    (room - entries_for content new) more
grants limits content granted room [] = []

-- ---- marks

-- The mark of a packet on its client's current connection. A PUBLISH is a repeat, refused or taken.
-- Packets that only a server sends, and a second CONNECT, are violations (MQTT-3.1.0-2, MQTT 4.8).
abbrev pub packet_mark : Limits → Past → Client → Packet → Mark
packet_mark limits past client (packets.Publish publish) =
    if is_repeat past client publish.delivery then Mark.Repeat client else
    if is_refused limits past (publication_of publish) then Mark.Refused client
    else Mark.Taken client
packet_mark limits past client (packets.Subscribe subscribe) =
    Mark.Granted client (grants limits (retained_publications past) (subscriptions_of past client)
    (room_of limits past client) subscribe.filters)
packet_mark limits past client (packets.Connect connect) = Mark.Leaves client
packet_mark limits past client (packets.Connack connack) = Mark.Leaves client
packet_mark limits past client (packets.Suback suback) = Mark.Leaves client
packet_mark limits past client (packets.Unsuback id) = Mark.Leaves client
packet_mark limits past client packets.Pingresp = Mark.Leaves client
packet_mark limits past client packets.Disconnect = Mark.Leaves client
packet_mark limits past client (packets.Puback id) = Mark.Handled client
packet_mark limits past client (packets.Pubrec id) = Mark.Handled client
packet_mark limits past client (packets.Pubrel id) = Mark.Handled client
packet_mark limits past client (packets.Pubcomp id) = Mark.Handled client
packet_mark limits past client (packets.Unsubscribe unsubscribe) = Mark.Handled client
packet_mark limits past client packets.Pingreq = Mark.Handled client

-- a packet counts only on a current connection
abbrev pub packet_mark_of : Limits → Past → Packet → Option Client → Mark
packet_mark_of limits past packet (Some owner) = packet_mark limits past owner packet
packet_mark_of limits past packet None = Mark.Unmarked

-- A Connect on a client's current connection is a violation. Any other is accepted if its client
-- has a session or the limit of sessions allows one more.
abbrev pub connect_mark : Limits → Past → Client → Option Client → Mark
connect_mark limits past client (Some owner) = Mark.Leaves owner
connect_mark limits past client None =
    if is_some (clean_session_of past client) || nat_lt (length (clients past)) limits.sessions
    then Mark.Accepted else Mark.Full

-- the mark of a command after these places
abbrev pub mark_of : Limits → Past → Command → Mark
mark_of limits past (commands.Packet connection packet) =
    packet_mark_of limits past packet (owner_of past connection)
mark_of limits past (commands.Connect connection client clean) =
    connect_mark limits past client (owner_of past connection)
mark_of limits past (commands.Lost connection) = Mark.Unmarked
mark_of limits past (commands.Start ballot) = Mark.Unmarked
mark_of limits past (commands.Expel client) = Mark.Unmarked
