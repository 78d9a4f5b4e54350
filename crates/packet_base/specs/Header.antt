-- The first byte of a packet: its type in the high four bits, its flags in the low ones (MQTT 2.2).
use Rattle.std.specs.Prelude.{ℕ, ◌+◌, ◌*◌, ◌/◌, ◌%◌, ◌==◌, nat_lt, if◌then◌else◌, Result, Ok, Err}
use Rattle.topics.specs.declared.malformed.MalformedKind.TheVariants as kinds
use Rattle.packet_base.specs.declared.stop.Stop.{Stop}
use Rattle.packet_base.specs.declared.stop.Stop.TheVariants as stops
use Rattle.packet_base.specs.declared.header.DeliveryFlags.{DeliveryFlags}
use Rattle.packet_base.specs.declared.header.DeliveryFlags.TheVariants as deliveries
use Rattle.packet_base.specs.declared.header.Header.{Header}
use Rattle.packet_base.specs.declared.header.Header.TheVariants as headers
use Rattle.packet_base.specs.Spelling.{bit}

-- DUP (8) and QoS (twice its number), as bits of the first byte (MQTT 3.3.1)
abbrev pub delivery_bits : DeliveryFlags → ℕ
delivery_bits deliveries.AtMostOnce = 0
delivery_bits (deliveries.AtLeastOnce dup) = 2 + 8 * bit dup
delivery_bits (deliveries.ExactlyOnce dup) = 4 + 8 * bit dup

-- the byte that a packet begins with (MQTT 2.2, tables 2.1 and 2.2)
abbrev pub first_byte : Header → ℕ
first_byte headers.Connect = 0x10
first_byte headers.Connack = 0x20
first_byte (headers.Publish delivery retain) = 0x30 + delivery_bits delivery + bit retain
first_byte headers.Puback = 0x40
first_byte headers.Pubrec = 0x50
first_byte headers.Pubrel = 0x62
first_byte headers.Pubcomp = 0x70
first_byte headers.Subscribe = 0x82
first_byte headers.Suback = 0x90
first_byte headers.Unsubscribe = 0xA2
first_byte headers.Unsuback = 0xB0
first_byte headers.Pingreq = 0xC0
first_byte headers.Pingresp = 0xD0
first_byte headers.Disconnect = 0xE0

-- the header if the flags are the ones that its type always has (MQTT 2.2.2)
abbrev pub plain_header : Header → ℕ → ℕ → Result Header Stop
plain_header header wanted flags =
    if flags == wanted then Ok header else Err (stops.Malformed kinds.Flags)

-- bit 3 is DUP, bits 2 and 1 are the QoS, bit 0 is RETAIN (MQTT 3.3.1)
abbrev pub publish_header : ℕ → Result Header Stop
publish_header flags =
    let dup = nat_lt 7 flags in
    let retain = flags % 2 == 1 in
    if flags / 2 % 4 == 3 then Err (stops.Malformed kinds.Qos) else
    if flags / 2 % 4 == 2 then Ok (headers.Publish (deliveries.ExactlyOnce dup) retain) else
    if flags / 2 % 4 == 1 then Ok (headers.Publish (deliveries.AtLeastOnce dup) retain) else
    if dup then Err (stops.Malformed kinds.Flags) else
    Ok (headers.Publish deliveries.AtMostOnce retain)

-- the header of a type with its flags, in the order of the types (MQTT 2.2.1, table 2.1)
abbrev pub typed_header : ℕ → ℕ → Result Header Stop
typed_header type flags =
    if type == 1 then plain_header headers.Connect 0 flags else
    if type == 2 then plain_header headers.Connack 0 flags else
    if type == 3 then publish_header flags else
    if type == 4 then plain_header headers.Puback 0 flags else
    if type == 5 then plain_header headers.Pubrec 0 flags else
    if type == 6 then plain_header headers.Pubrel 2 flags else
    if type == 7 then plain_header headers.Pubcomp 0 flags else
    if type == 8 then plain_header headers.Subscribe 2 flags else
    if type == 9 then plain_header headers.Suback 0 flags else
    if type == 10 then plain_header headers.Unsubscribe 2 flags else
    if type == 11 then plain_header headers.Unsuback 0 flags else
    if type == 12 then plain_header headers.Pingreq 0 flags else
    if type == 13 then plain_header headers.Pingresp 0 flags else
    if type == 14 then plain_header headers.Disconnect 0 flags else
    Err (stops.Malformed kinds.PacketType)

-- the header that a first byte encodes
abbrev pub header_of : ℕ → Result Header Stop
header_of first = typed_header (first / 16) (first % 16)
