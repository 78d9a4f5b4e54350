-- The fields that state a packet.
use Rattle.std.specs.Prelude.{ℕ, Bool, List, [], ◌∷◌, ◌++◌, codes}
use Rattle.std.specs.List.{flat_map}
use Rattle.std.specs.Fmt.{decimal}
use Rattle.rows.specs.Fields.{Text}
use Rattle.packet_base.specs.Spelling.{bit}
use Rattle.packet_base.specs.RefusalCode.{code_number}
use Rattle.packet_base.specs.QoS.{qos_number}
use Rattle.packet.specs.Suback.{granted_number}
use Rattle.packet.specs.declared.packet.Packet.{Packet}
use Rattle.packet.specs.declared.packet.Packet.TheVariants as packets
use Rattle.packet.specs.declared.connect.Connect.{Connect}
use Rattle.packet.specs.declared.connack.Connack.{Connack}
use Rattle.packet.specs.declared.connack.Connack.TheVariants as connacks
use Rattle.packet.specs.declared.publish.Publish.{Publish}
use Rattle.packet.specs.declared.delivery.Delivery.{Delivery}
use Rattle.packet.specs.declared.delivery.Delivery.TheVariants as deliveries
use Rattle.packet.specs.declared.subscribe.Subscribe.{Subscribe}
use Rattle.packet.specs.declared.subscribe.Subscription.{Subscription}
use Rattle.packet.specs.declared.suback.Suback.{Suback}
use Rattle.packet.specs.declared.suback.SubackCode.{SubackCode}
use Rattle.packet.specs.declared.unsubscribe.Unsubscribe.{Unsubscribe}

-- a word and a number
abbrev pub number_fields : Text → ℕ → List Text
number_fields word number = word ∷ decimal number ∷ []

-- a word and a flag, 0 or 1
abbrev pub flag_fields : Text → Bool → List Text
flag_fields word flag = number_fields word (bit flag)

-- a word and a Packet Identifier
abbrev pub id_alone_fields : Text → ℕ → List Text
id_alone_fields word id = word ∷ number_fields (codes "id") id

-- `connect client "a" clean 0 keepalive 60`
abbrev pub connect_fields : Connect → List Text
connect_fields connect = codes "connect" ∷ codes "client" ∷ connect.client
    ∷ flag_fields (codes "clean") connect.clean
    ++ number_fields (codes "keepalive") connect.keep_alive

-- `connack present 0 code 0`
abbrev pub connack_fields : Connack → List Text
connack_fields (connacks.Accepted present) =
    codes "connack" ∷ flag_fields (codes "present") present ++ number_fields (codes "code") 0
connack_fields (connacks.Refused code) =
    codes "connack" ∷ number_fields (codes "present") 0
    ++ number_fields (codes "code") (code_number code)

-- `qos 1 dup 0 id 10`
abbrev pub handshake_fields : ℕ → Bool → ℕ → List Text
handshake_fields qos dup id = number_fields (codes "qos") qos ++ flag_fields (codes "dup") dup
    ++ number_fields (codes "id") id

-- QoS, and what a QoS over 0 has
abbrev pub delivery_fields : Delivery → List Text
delivery_fields deliveries.AtMostOnce = number_fields (codes "qos") 0
delivery_fields (deliveries.AtLeastOnce dup id) = handshake_fields 1 dup id
delivery_fields (deliveries.ExactlyOnce dup id) = handshake_fields 2 dup id

-- `publish topic "t" qos 0 retain 0 payload "hi"`
abbrev pub publish_fields : Publish → List Text
publish_fields publish = codes "publish" ∷ codes "topic" ∷ publish.topic
    ∷ delivery_fields publish.delivery ++ flag_fields (codes "retain") publish.retain
    ++ codes "payload" ∷ publish.payload ∷ []

-- `filter "a" qos 1`
abbrev pub subscription_fields : Subscription → List Text
subscription_fields asked =
    codes "filter" ∷ asked.filter ∷ number_fields (codes "qos") (qos_number asked.qos)

-- `subscribe id 10`, then each filter with its QoS
abbrev pub subscribe_fields : Subscribe → List Text
subscribe_fields subscribe = id_alone_fields (codes "subscribe") subscribe.id
    ++ flat_map subscription_fields subscribe.filters

-- `code 128`
abbrev pub code_fields : SubackCode → List Text
code_fields code = number_fields (codes "code") (granted_number code)

-- `suback id 10`, then each return code
abbrev pub suback_fields : Suback → List Text
suback_fields suback =
    id_alone_fields (codes "suback") suback.id ++ flat_map code_fields suback.codes

-- `filter "a"`
abbrev pub filter_fields : Text → List Text
filter_fields filter = codes "filter" ∷ filter ∷ []

-- `unsubscribe id 10`, then each filter
abbrev pub unsubscribe_fields : Unsubscribe → List Text
unsubscribe_fields unsubscribe = id_alone_fields (codes "unsubscribe") unsubscribe.id
    ++ flat_map filter_fields unsubscribe.filters

-- the fields of a packet
abbrev pub packet_fields : Packet → List Text
packet_fields (packets.Connect connect) = connect_fields connect
packet_fields (packets.Connack connack) = connack_fields connack
packet_fields (packets.Publish publish) = publish_fields publish
packet_fields (packets.Puback id) = id_alone_fields (codes "puback") id
packet_fields (packets.Pubrec id) = id_alone_fields (codes "pubrec") id
packet_fields (packets.Pubrel id) = id_alone_fields (codes "pubrel") id
packet_fields (packets.Pubcomp id) = id_alone_fields (codes "pubcomp") id
packet_fields (packets.Subscribe subscribe) = subscribe_fields subscribe
packet_fields (packets.Suback suback) = suback_fields suback
packet_fields (packets.Unsubscribe unsubscribe) = unsubscribe_fields unsubscribe
packet_fields (packets.Unsuback id) = id_alone_fields (codes "unsuback") id
packet_fields packets.Pingreq = codes "pingreq" ∷ []
packet_fields packets.Pingresp = codes "pingresp" ∷ []
packet_fields packets.Disconnect = codes "disconnect" ∷ []
