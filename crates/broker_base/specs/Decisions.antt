-- The mark of a command, decided from the state (MQTT 3.1.4, 3.8.4, 4.3.3, 4.8).
use Rattle.std.specs.Prelude.{Bool, false, not, ◌&&◌, ◌||◌, ◌==◌, nat_lt, nat_le, if◌then◌else◌}
use Rattle.std.specs.Prelude.{length, Option, Some, None, is_some, is_none, option_map}
use Rattle.std.specs.List.{list_any}
use Rattle.packet.specs.declared.delivery.Delivery.{Delivery}
use Rattle.packet.specs.declared.delivery.Delivery.TheVariants as deliveries
use Rattle.packet.specs.declared.packet.Packet.{Packet}
use Rattle.packet.specs.declared.packet.Packet.TheVariants as packets
use Rattle.retained.specs.Retained.{RetainedTopics, is_empty, publication_on}
use Rattle.session_base.specs.declared.publication.Publication.{Publication}
use Rattle.session_base.specs.Publication.{publication_of}
use Rattle.packet_base.specs.QoS.{lower_qos}
use Rattle.lists.specs.Lists.{has_id}
use Rattle.session_base.specs.Queue.{room}
use Rattle.broker_spec.specs.Place.{Client, Mark, Place, Limits}
use Rattle.session_base.specs.Subscriptions.{granted_qos}
use Rattle.broker_spec.specs.Marks.{is_queued_at, grants}
use Rattle.broker_base.specs.ClientSession.{ClientSession}
use Rattle.broker_base.specs.State.{State, session_in, owner_in}
use Rattle.broker_spec.specs.declared.command.Command.{Command}
use Rattle.broker_spec.specs.declared.command.Command.TheVariants as commands

-- whether a session would have to queue the publication but is full
abbrev pub row_lacks_room : Limits → Publication → Client × ClientSession → Bool
row_lacks_room limits publication row =
    is_queued_at
    (option_map (lower_qos publication.qos)
    (granted_qos publication.topic row.1.state.subscriptions))
    && (room limits.entries row.1.state.queue == 0)

-- whether retaining the publication would exceed the topic limit
abbrev pub is_one_topic_over : Limits → RetainedTopics → Publication → Bool
is_one_topic_over limits content publication =
    publication.retain && not (is_empty publication.payload)
    && is_none (publication_on publication.topic content)
    && nat_le limits.retained (length content)

-- a publication is refused as a whole if some session has no room for it, or if retaining it would
-- exceed the topic limit
abbrev pub is_refused_in : Limits → State → Publication → Bool
is_refused_in limits state publication =
    list_any (row_lacks_room limits publication) state.sessions
    || is_one_topic_over limits state.retained publication

-- whether the session received this identifier at QoS 2 and no PUBREL since
abbrev pub repeats_taken : ClientSession → Delivery → Bool
repeats_taken kept (deliveries.ExactlyOnce dup id) = has_id id kept.state.received
repeats_taken kept _ = false

-- the mark of a packet on this session's connection
abbrev pub owned_mark : Limits → State → Client × ClientSession → Packet → Mark
owned_mark limits state owner (packets.Publish publish) =
    if repeats_taken owner.1 publish.delivery then Mark.Repeat owner.0 else
    if is_refused_in limits state (publication_of publish) then Mark.Refused owner.0
    else Mark.Taken owner.0
owned_mark limits state owner (packets.Subscribe subscribe) =
    Mark.Granted owner.0 (grants limits state.retained owner.1.state.subscriptions
    (room limits.entries owner.1.state.queue) subscribe.filters)
owned_mark limits state owner (packets.Connect connect) = Mark.Leaves owner.0
owned_mark limits state owner (packets.Connack connack) = Mark.Leaves owner.0
owned_mark limits state owner (packets.Suback suback) = Mark.Leaves owner.0
owned_mark limits state owner (packets.Unsuback id) = Mark.Leaves owner.0
owned_mark limits state owner packets.Pingresp = Mark.Leaves owner.0
owned_mark limits state owner packets.Disconnect = Mark.Leaves owner.0
owned_mark limits state owner _ = Mark.Handled owner.0

-- a packet has an effect only on a client's current connection
abbrev pub packet_mark_in : Limits → State → Packet → Option (Client × ClientSession) → Mark
packet_mark_in limits state packet (Some owner) = owned_mark limits state owner packet
packet_mark_in limits state packet None = Mark.Unmarked

-- a Connect on a client's current connection is a violation; any other is accepted if its client
-- has a session or the limit of sessions allows one more
abbrev pub connect_mark_in : Limits → State → Client → Option (Client × ClientSession) → Mark
connect_mark_in limits state client (Some owner) = Mark.Leaves owner.0
connect_mark_in limits state client None =
    if is_some (session_in client state.sessions) || nat_lt (length state.sessions) limits.sessions
    then Mark.Accepted else Mark.Full

-- the mark of a command in this state
abbrev pub mark_in : Limits → State → Command → Mark
mark_in limits state (commands.Packet connection packet) =
    packet_mark_in limits state packet (owner_in connection state.sessions)
mark_in limits state (commands.Connect connection client clean) =
    connect_mark_in limits state client (owner_in connection state.sessions)
mark_in limits state (commands.Lost connection) = Mark.Unmarked
mark_in limits state (commands.Start ballot) = Mark.Unmarked
mark_in limits state (commands.Expel client) = Mark.Unmarked

-- the command with its mark
abbrev pub place_in : Limits → State → Command → Place
place_in limits state command = record { command = command; mark = mark_in limits state command }
