-- What the broker answers to a command, in order (MQTT 3.1.4, 3.2, 3.3.4, 3.8.4, 3.10.4, 3.12.4,
-- 4.3).
use Rattle.std.specs.Prelude.{suc, Bool, not, if◌then◌else◌, List, [], ◌∷◌, ◌++◌, length, flat_map}
use Rattle.std.specs.Prelude.{Option, Some, None}
use Rattle.packet_base.specs.declared.refusal_code.RefusalCode.TheVariants as refusals
use Rattle.packet.specs.declared.connack.Connack.TheVariants as connacks
use Rattle.packet.specs.declared.delivery.Delivery.{Delivery}
use Rattle.packet.specs.declared.delivery.Delivery.TheVariants as deliveries
use Rattle.packet.specs.declared.subscribe.Subscription.{Subscription}
use Rattle.packet.specs.declared.suback.SubackCode.{SubackCode}
use Rattle.packet.specs.declared.suback.SubackCode.TheVariants as codes
use Rattle.packet.specs.declared.packet.Packet.{Packet}
use Rattle.packet.specs.declared.packet.Packet.TheVariants as packets
use Rattle.broker_spec.specs.Connection.{ConnectionName}
use Rattle.broker_spec.specs.Place.{Client, Mark, Place, Past, Limits}
use Rattle.broker_spec.specs.Sessions.{current_connection, begins}
use Rattle.broker_spec.specs.Owner.{clients}
use Rattle.lists.specs.Lists.{has_id}
use Rattle.broker_spec.specs.Readings.{released_below}
use Rattle.broker_spec.specs.Times.{entries_of}
use Rattle.broker_spec.specs.Sends.{all_started, resent_outputs, deliveries_to}
use Rattle.broker_spec.specs.declared.command.Command.{Command}
use Rattle.broker_spec.specs.declared.command.Command.TheVariants as commands
use Rattle.broker_spec.specs.declared.command.Output.{Output}
use Rattle.broker_spec.specs.declared.command.Output.TheVariants.{Send, Close}

-- the Close of a client's old connection, if it has one (MQTT 3.1.4)
abbrev pub close_outputs : Option ConnectionName → List Output
close_outputs (Some connection) = Close connection ∷ []
close_outputs None = []

-- the answer to an accepted Connect: CONNACK 0 with Session Present (MQTT 3.2.2.2)
abbrev pub welcome : ConnectionName → Bool → Output
welcome connection present = Send connection (packets.Connack (connacks.Accepted present))

-- the answer to a Connect that would exceed the limit of sessions (MQTT 3.2.2.3)
abbrev pub turned_away : ConnectionName → Output
turned_away connection =
    Send connection (packets.Connack (connacks.Refused refusals.ServerUnavailable))

-- the acknowledgement of a taken PUBLISH, by its QoS (MQTT 3.3.4)
abbrev pub acknowledged : ConnectionName → Delivery → List Output
acknowledged connection deliveries.AtMostOnce = []
acknowledged connection (deliveries.AtLeastOnce dup id) = Send connection (packets.Puback id) ∷ []
acknowledged connection (deliveries.ExactlyOnce dup id) = Send connection (packets.Pubrec id) ∷ []

-- the return code of each filter of a SUBSCRIBE (MQTT 3.9.3)
abbrev pub codes_of : List Subscription → List Bool → List SubackCode
codes_of (subscription ∷ more) (granted ∷ others) =
    (if granted then codes.Granted subscription.qos else codes.Failure) ∷ codes_of more others
codes_of _ _ = []

-- the answers to a packet that is neither PUBLISH nor SUBSCRIBE and does not end its connection
abbrev pub other_answers : Limits → Place → Past → ConnectionName → Client → Packet → List Output
other_answers limits place past connection client (packets.Unsubscribe unsubscribe) =
    Send connection (packets.Unsuback unsubscribe.id) ∷ []
other_answers limits place past connection client (packets.Pubrel id) =
    Send connection (packets.Pubcomp id) ∷ []
other_answers limits place past connection client packets.Pingreq =
    Send connection packets.Pingresp ∷ []
other_answers limits place past connection client (packets.Pubrec id) =
    if has_id id (released_below (suc (length past)) (entries_of limits (place ∷ past) client))
    then Send connection (packets.Pubrel id) ∷ [] else []
other_answers limits place past connection client (packets.Puback id) =
    all_started connection (length past) (entries_of limits (place ∷ past) client)
other_answers limits place past connection client (packets.Pubcomp id) =
    all_started connection (length past) (entries_of limits (place ∷ past) client)
other_answers limits place past connection client (packets.Connect connect) = []
other_answers limits place past connection client (packets.Connack connack) = []
other_answers limits place past connection client (packets.Publish publish) = []
other_answers limits place past connection client (packets.Subscribe subscribe) = []
other_answers limits place past connection client (packets.Suback suback) = []
other_answers limits place past connection client (packets.Unsuback id) = []
other_answers limits place past connection client packets.Pingresp = []
other_answers limits place past connection client packets.Disconnect = []

-- the answers to a packet, by its mark
abbrev pub packet_answers : Limits → Place → Past → ConnectionName → Packet → Mark → List Output
packet_answers limits place past connection (packets.Publish publish) (Mark.Taken client) =
    acknowledged connection publish.delivery
    ++ flat_map (deliveries_to limits place past) (clients past)
packet_answers limits place past connection (packets.Publish publish) (Mark.Repeat client) =
    acknowledged connection publish.delivery
packet_answers limits place past connection (packets.Subscribe subscribe)
    (Mark.Granted client which) =
    Send connection
    (packets.Suback (record { id = subscribe.id; codes = codes_of subscribe.filters which }))
    ∷ deliveries_to limits place past client
packet_answers limits place past connection packet (Mark.Handled client) =
    other_answers limits place past connection client packet
packet_answers limits place past connection packet (Mark.Leaves client) = Close connection ∷ []
packet_answers limits place past connection packet (Mark.Refused client) = Close connection ∷ []
packet_answers limits place past connection packet _ = []

-- the answers to a Connect, by its mark
abbrev pub connect_answers : Limits → Place → Past → ConnectionName → Client → Mark → List Output
connect_answers limits place past connection client Mark.Accepted =
    close_outputs (current_connection past client)
    ++ welcome connection (not (begins place past client))
    ∷ resent_outputs connection (length past) (entries_of limits (place ∷ past) client)
connect_answers limits place past connection client Mark.Full =
    turned_away connection ∷ Close connection ∷ []
connect_answers limits place past connection client _ = Close connection ∷ []

-- the answers to a command, by its mark: a Lost and a Start have none, and an expelled client's
-- connection is closed
abbrev pub answers_by : Limits → Place → Past → Command → Mark → List Output
answers_by limits place past (commands.Packet connection packet) mark =
    packet_answers limits place past connection packet mark
answers_by limits place past (commands.Connect connection client clean) mark =
    connect_answers limits place past connection client mark
answers_by limits place past (commands.Lost connection) mark = []
answers_by limits place past (commands.Start ballot) mark = []
answers_by limits place past (commands.Expel client) mark =
    close_outputs (current_connection past client)
