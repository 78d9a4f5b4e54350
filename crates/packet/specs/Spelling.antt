-- The bytes of a packet (MQTT 2, 3).
use Rattle.std.specs.Prelude.{◌≡◌, ℕ, ◌+◌, ◌<◌, ◌≤◌, List, [], ◌∷◌, ◌++◌, length}
use Rattle.packet_base.specs.declared.header.Header.{Header}
use Rattle.packet_base.specs.declared.header.Header.TheVariants as headers
use Rattle.packet_base.specs.Header.{first_byte}
use Rattle.packet_base.specs.Spelling.{IsLength, IsId, number, remaining_length, length_bytes}
use Rattle.packet.specs.declared.packet.Packet.{Packet}
use Rattle.packet.specs.declared.packet.Packet.TheVariants as packets
use Rattle.packet.specs.declared.packet.TheConstants.{MAX_BODY}
use Rattle.packet.specs.Connect.{connect_body, FitsConnect}
use Rattle.packet.specs.Connack.{connack_body}
use Rattle.packet.specs.Delivery.{delivery_flags}
use Rattle.packet.specs.Publish.{publish_body, FitsPublish}
use Rattle.packet.specs.Subscribe.{subscribe_body, FitsSubscribe}
use Rattle.packet.specs.Suback.{suback_body, FitsSuback}
use Rattle.packet.specs.Unsubscribe.{unsubscribe_body, FitsUnsubscribe}

-- the type and flags of a packet, which its first byte has (MQTT 2.2)
abbrev pub header : Packet → Header
header (packets.Connect connect) = headers.Connect
header (packets.Connack connack) = headers.Connack
header (packets.Publish publish) = headers.Publish (delivery_flags publish.delivery) publish.retain
header (packets.Puback id) = headers.Puback
header (packets.Pubrec id) = headers.Pubrec
header (packets.Pubrel id) = headers.Pubrel
header (packets.Pubcomp id) = headers.Pubcomp
header (packets.Subscribe subscribe) = headers.Subscribe
header (packets.Suback suback) = headers.Suback
header (packets.Unsubscribe unsubscribe) = headers.Unsubscribe
header (packets.Unsuback id) = headers.Unsuback
header packets.Pingreq = headers.Pingreq
header packets.Pingresp = headers.Pingresp
header packets.Disconnect = headers.Disconnect

-- the bytes after the Remaining Length: variable header and payload (MQTT 3)
abbrev pub body : Packet → List ℕ
body (packets.Connect connect) = connect_body connect
body (packets.Connack connack) = connack_body connack
body (packets.Publish publish) = publish_body publish
body (packets.Puback id) = number id
body (packets.Pubrec id) = number id
body (packets.Pubrel id) = number id
body (packets.Pubcomp id) = number id
body (packets.Subscribe subscribe) = subscribe_body subscribe
body (packets.Suback suback) = suback_body suback
body (packets.Unsubscribe unsubscribe) = unsubscribe_body unsubscribe
body (packets.Unsuback id) = number id
body packets.Pingreq = []
body packets.Pingresp = []
body packets.Disconnect = []

-- first byte, Remaining Length, body (MQTT 2)
abbrev pub Spells : Packet → List ℕ → Type 0
Spells packet bytes =
    (len : List ℕ) × IsLength len (length (body packet))
    × (bytes ≡ first_byte (header packet) ∷ len ++ body packet)

-- the bytes of a packet: the only list of bytes that spells it
unfoldable pub spelling : Packet → List ℕ
spelling packet =
    first_byte (header packet) ∷ remaining_length (length (body packet)) ++ body packet

-- the length of the spelling: the first byte, the bytes of the Remaining Length, and the body
abbrev pub spelled_len : Packet → ℕ
spelled_len packet = 1 + length_bytes (length (body packet)) + length (body packet)

-- each field is in its range, as in every packet of a program
abbrev pub Fits : Packet → Type 0
Fits (packets.Connect connect) = FitsConnect connect
Fits (packets.Connack connack) = Unit {0}
Fits (packets.Publish publish) = FitsPublish publish
Fits (packets.Puback id) = IsId id
Fits (packets.Pubrec id) = IsId id
Fits (packets.Pubrel id) = IsId id
Fits (packets.Pubcomp id) = IsId id
Fits (packets.Subscribe subscribe) = FitsSubscribe subscribe
Fits (packets.Suback suback) = FitsSuback suback
Fits (packets.Unsubscribe unsubscribe) = FitsUnsubscribe unsubscribe
Fits (packets.Unsuback id) = IsId id
Fits packets.Pingreq = Unit {0}
Fits packets.Pingresp = Unit {0}
Fits packets.Disconnect = Unit {0}

-- no list of the packet is empty (MQTT 3.8.3, 3.9.3, 3.10.3)
abbrev pub IsListed : Packet → Type 0
IsListed (packets.Subscribe subscribe) = 0 < length subscribe.filters
IsListed (packets.Suback suback) = 0 < length suback.codes
IsListed (packets.Unsubscribe unsubscribe) = 0 < length unsubscribe.filters
IsListed _ = Unit {0}

-- the most bytes after the Remaining Length, this broker's own limit
abbrev pub max_body : ℕ
max_body = MAX_BODY

-- a packet over the limit
abbrev pub IsTooLarge : Packet → Type 0
IsTooLarge packet = max_body < length (body packet)

-- a packet that has a spelling
abbrev pub IsPacket : Packet → Type 0
IsPacket packet = Fits packet × IsListed packet × (length (body packet) ≤ max_body)

-- new is old with the spelling of the packet appended
abbrev pub AppendsSpelling : List ℕ → List ℕ → Packet → Type 0
AppendsSpelling old new packet = (bytes : List ℕ) × Spells packet bytes × (new ≡ old ++ bytes)
