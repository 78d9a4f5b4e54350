-- The front of bytes: a packet, less than one, or the first fault from the left.
use Rattle.std.specs.Prelude.{◌≡◌, ℕ, ◌≤◌, nat_le, Bool, true, false, is_ok, List, [], ◌∷◌, ◌++◌}
use Rattle.std.specs.Prelude.{length, take, drop, Result, Ok, Err}
use Rattle.topics.specs.declared.malformed.MalformedKind.TheVariants as kinds
use Rattle.packet_base.specs.declared.stop.Stop.{Stop}
use Rattle.packet_base.specs.declared.stop.Stop.TheVariants as stops
use Rattle.packet_base.specs.declared.header.Header.{Header}
use Rattle.packet_base.specs.declared.header.Header.TheVariants as headers
use Rattle.packet_base.specs.Header.{header_of}
use Rattle.packet_base.specs.Readers.{◌>>=◌, ◌>>◌, check, ended, length_at}
use Rattle.packet_base.specs.TopicFields.{filter_at}
use Rattle.packet_base.specs.Lists.{begins_list}
use Rattle.packet_base.specs.Outcome.{StopsBy}
use Rattle.packet.specs.declared.packet.Packet.{Packet}
use Rattle.packet.specs.declared.packet.Packet.TheVariants as packets
use Rattle.packet.specs.declared.decoder.Step.{Step}
use Rattle.packet.specs.declared.decoder.Step.TheVariants as steps
use Rattle.packet.specs.declared.error.DecodeFault.{DecodeFault}
use Rattle.packet.specs.declared.error.DecodeFault.TheVariants as faults
use Rattle.packet.specs.Spelling.{max_body, Spells, IsPacket}
use Rattle.packet.specs.Connect.{connect_of}
use Rattle.packet.specs.Connack.{connack_of}
use Rattle.packet.specs.Publish.{publish_of}
use Rattle.packet.specs.IdAlone.{id_alone_of}
use Rattle.packet.specs.Subscribe.{subscription_at, subscribe_of}
use Rattle.packet.specs.Suback.{granted_at, suback_of}
use Rattle.packet.specs.Unsubscribe.{unsubscribe_of}

-- a packet without a body (MQTT 3.12 to 3.14)
abbrev pub empty_of : Packet → List ℕ → Result Packet Stop
empty_of packet body = ended body >> Ok packet

-- the body of a packet with this header
abbrev pub body_of : Header → List ℕ → Result Packet Stop
body_of headers.Connect body = connect_of body >>= (λ connect. Ok (packets.Connect connect))
body_of headers.Connack body = connack_of body >>= (λ connack. Ok (packets.Connack connack))
body_of (headers.Publish flags retain) body =
    publish_of flags retain body >>= (λ publish. Ok (packets.Publish publish))
body_of headers.Puback body = id_alone_of body >>= (λ id. Ok (packets.Puback id))
body_of headers.Pubrec body = id_alone_of body >>= (λ id. Ok (packets.Pubrec id))
body_of headers.Pubrel body = id_alone_of body >>= (λ id. Ok (packets.Pubrel id))
body_of headers.Pubcomp body = id_alone_of body >>= (λ id. Ok (packets.Pubcomp id))
body_of headers.Subscribe body =
    subscribe_of body >>= (λ subscribe. Ok (packets.Subscribe subscribe))
body_of headers.Suback body = suback_of body >>= (λ suback. Ok (packets.Suback suback))
body_of headers.Unsubscribe body =
    unsubscribe_of body >>= (λ unsubscribe. Ok (packets.Unsubscribe unsubscribe))
body_of headers.Unsuback body = id_alone_of body >>= (λ id. Ok (packets.Unsuback id))
body_of headers.Pingreq body = empty_of packets.Pingreq body
body_of headers.Pingresp body = empty_of packets.Pingresp body
body_of headers.Disconnect body = empty_of packets.Disconnect body

-- The packet at the front, and the bytes after it. First byte, length, limit, the presence of the
-- whole body and its contents are checked in this order.
unfoldable pub verdict : List ℕ → Result (Packet × List ℕ) Stop
verdict [] = Err stops.More
verdict (first ∷ bytes) = do
  header ← header_of first
  len ← length_at 3 bytes
  check (nat_le len.0 max_body) (stops.Malformed kinds.TooLarge)
  check (nat_le len.0 (length len.1)) stops.More
  packet ← body_of header (take len.0 len.1)
  Ok (packet, drop len.0 len.1)

-- less than a packet, which more bytes may complete
abbrev pub IsUnfinished : List ℕ → Type 0
IsUnfinished bytes = verdict bytes ≡ Err stops.More

-- Whether memory is needed: nothing has a fault up to where it is first taken. That is after all
-- fields of a CONNECT and of a PUBLISH, and after the first item of a list. No other packet has a
-- text or a list.
abbrev pub asks_in_body : Header → List ℕ → Bool
asks_in_body headers.Connect body = is_ok (connect_of body)
asks_in_body (headers.Publish flags retain) body = is_ok (publish_of flags retain body)
asks_in_body headers.Subscribe body = begins_list subscription_at body
asks_in_body headers.Suback body = begins_list granted_at body
asks_in_body headers.Unsubscribe body = begins_list filter_at body
asks_in_body header body = false

-- whether memory is needed for what is at the front, once the whole body is there
unfoldable pub asks_memory : List ℕ → Result Bool Stop
asks_memory [] = Err stops.More
asks_memory (first ∷ bytes) = do
  header ← header_of first
  len ← length_at 3 bytes
  check (nat_le len.0 max_body) (stops.Malformed kinds.TooLarge)
  check (nat_le len.0 (length len.1)) stops.More
  Ok (asks_in_body header (take len.0 len.1))

-- memory may run out for the packet at the front
abbrev pub MayNeedMemory : List ℕ → Type 0
MayNeedMemory bytes = asks_memory bytes ≡ Ok true

-- the result of `decode` is the verdict, except that memory may run out
abbrev pub Decodes : List ℕ → Result Step DecodeFault → Type 0
Decodes bytes (Ok (steps.Whole packet len)) = verdict bytes ≡ Ok (packet, drop len bytes)
Decodes bytes (Ok steps.More) = verdict bytes ≡ Err stops.More
Decodes bytes (Err (faults.Malformed kind)) = StopsBy (stops.Malformed kind) (verdict bytes)
Decodes bytes (Err (faults.Refused code)) = verdict bytes ≡ Err (stops.Refused code)

-- a whole packet lies within the bytes
abbrev pub IsWithin : List ℕ → Step → Type 0
IsWithin bytes (steps.Whole packet len) = len ≤ length bytes
IsWithin bytes steps.More = Unit {0}

-- a packet that was read is spelled by the bytes that it takes
abbrev pub IsSpelledSo : List ℕ → Step → Type 0
IsSpelledSo bytes (steps.Whole packet len) = Spells packet (take len bytes) × IsPacket packet
IsSpelledSo bytes steps.More = Unit {0}

-- the result is this packet with this length, except that memory may run out
abbrev pub ReadsWhole : Packet → ℕ → Result Step DecodeFault → Type 0
ReadsWhole packet len (Ok step) = step ≡ steps.Whole packet len
ReadsWhole packet len (Err fault) = fault ≡ faults.Malformed kinds.Memory

-- what is spelled is read, whatever follows it
abbrev pub ReadsWhatIsSpelled : List ℕ → Result Step DecodeFault → Type 0
ReadsWhatIsSpelled bytes result = (packet : Packet) (front rest : List ℕ) → IsPacket packet
    → Spells packet front → bytes ≡ front ++ rest → ReadsWhole packet (length front) result
