-- Steps about one packet, and their answers (MQTT 2, 3).
use Rattle.std.specs.Prelude.{◌≡◌, ◌<◌, ◌^◌, ℕ, false, nat_lt, List, [], ◌∷◌, length, codes, Option, Some, None, Result, Ok, Err, if◌then◌else◌}
use Rattle.std.specs.Fmt.{decimal}
use Rattle.rows.specs.Fields.{Text, number_of}
use Rattle.rows.specs.Playing.{Answers}
use Rattle.topics.specs.Text.{topic_fault}
use Rattle.packet_base.specs.Spelling.{remaining_length}
use Rattle.packet_base.specs.Readers.{length_at}
use Rattle.packet_base.specs.RefusalCode.{code_number}
use Rattle.packet_base.specs.declared.refusal_code.RefusalCode.{RefusalCode}
use Rattle.packet_base.specs.declared.stop.Stop.{Stop}
use Rattle.packet_base.specs.declared.stop.Stop.TheVariants as stops
use Rattle.packet.specs.Spelling.{body, max_body, spelling}
use Rattle.packet.specs.Verdict.{verdict}
use Rattle.packet.specs.declared.packet.Packet.{Packet}
use Rattle.packet.specs.declared.packet.Packet.TheVariants as packets
use Rattle.packet.specs.declared.delivery.Delivery.TheVariants as deliveries
use Rattle.rows.specs.Answers.{word, counted}
use Rattle.packet_rows.specs.AnswerFields.{refused}
use Rattle.packet_rows.specs.PacketFields.{packet_fields}
use Rattle.packet_rows.specs.TopicSteps.{unless}

-- a CONNECT that is answered by a CONNACK with this code
abbrev pub code_answer : RefusalCode → List Text
code_answer code = counted (codes "code") (code_number code)

-- why bytes are no packet
abbrev pub stop_answer : Stop → List Text
stop_answer stops.More = word (codes "more")
stop_answer (stops.Malformed kind) = refused kind
stop_answer (stops.Refused code) = code_answer code

-- how many bytes are left, if some are
abbrev pub left_answers : List ℕ → Answers
left_answers [] = []
left_answers (byte ∷ bytes) = counted (codes "left") (length (byte ∷ bytes)) ∷ []

-- what bytes are read as
abbrev pub read_answers : Result (Packet × List ℕ) Stop → Answers
read_answers (Ok read) = packet_fields read.0 ∷ left_answers read.1
read_answers (Err stop) = stop_answer stop ∷ []

-- a PUBLISH at QoS 0
abbrev pub publish_of : Text → List ℕ → Packet
publish_of topic payload = packets.Publish (record {
  topic = topic;
  delivery = deliveries.AtMostOnce;
  retain = false;
  payload = payload;
})

-- the bytes of a packet, unless it is too large
abbrev pub spelled : Packet → List Text
spelled packet = if nat_lt max_body (length (body packet))
    then counted (codes "refused") 4 else word (spelling packet)

-- the number that was read, if it was, and from all bytes
abbrev pub read_back : Result (ℕ × List ℕ) Stop → Option ℕ
read_back (Ok read) = if nat_lt 0 (length read.1) then None else Some read.0
read_back (Err stop) = None

-- the digits of a number, if there is one
abbrev pub digits_of : Option ℕ → List Text
digits_of (Some number) = decimal number ∷ []
digits_of None = []

-- the bytes of the Remaining Length that digits write, and the number that is read from them
abbrev pub LengthAnswer : Text → List Text → Type 0
LengthAnswer digits answer = (number : ℕ) × (number_of digits ≡ Some number) × (number < 2 ^ 28)
    × (answer
    ≡ remaining_length number ∷ digits_of (read_back (length_at 3 (remaining_length number))))

-- a step, and its answers
pub data PacketStep : List Text → Answers → Type 0 where
  -- `read x"C0 00"`
  read : (bytes : List ℕ) → PacketStep (codes "read" ∷ bytes ∷ []) (read_answers (verdict bytes))
  -- `write "t" "hi"`
  write : (topic payload : Text) → PacketStep (codes "write" ∷ topic ∷ payload ∷ [])
      (unless (topic_fault topic) (spelled (publish_of topic payload)) ∷ [])
  -- `length 128`
  length_bytes : (digits : Text) (answer : List Text) → LengthAnswer digits answer
      → PacketStep (codes "length" ∷ digits ∷ []) (answer ∷ [])
