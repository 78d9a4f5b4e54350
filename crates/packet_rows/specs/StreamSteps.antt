-- Steps of a stream, and their answers (MQTT 2.2, 4.8).
use Rattle.std.specs.Prelude.{◌≡◌, ℕ, true, List, [], ◌∷◌, ◌++◌, codes, Some, None, Ok, Err}
use Rattle.rows.specs.Fields.{Text}
use Rattle.rows.specs.Playing.{Answers}
use Rattle.packet.specs.declared.packet.Packet.{Packet}
use Rattle.packet.specs.declared.error.DecodeFault.{DecodeFault}
use Rattle.packet.specs.declared.error.DecodeFault.TheVariants as faults
use Rattle.cutter.specs.Stream.{Stream, Takes}
use Rattle.cutter.specs.declared.error.CutError.TheVariants as errors
use Rattle.rows.specs.Answers.{counted}
use Rattle.packet_rows.specs.AnswerFields.{refused}
use Rattle.packet_rows.specs.PacketFields.{packet_fields}
use Rattle.packet_rows.specs.PacketSteps.{code_answer}

-- why bytes are no packet
abbrev pub fault_answer : DecodeFault → List Text
fault_answer (faults.Malformed kind) = refused kind
fault_answer (faults.Refused code) = code_answer code

-- after a fault
abbrev pub failed_answer : List Text
failed_answer = counted (codes "refused") 13

-- All packets that are there are taken one after another, and the fault after them, if there is
-- one.
pub data TakesAll : Stream → Answers → Stream → Type 0 where
  -- no packet is left
  none : {old new : Stream} → Takes old (Ok None) new → TakesAll old [] new
  -- the stream goes on with a fault
  fault : {old new : Stream} (fault : DecodeFault) → Takes old (Err (errors.Decode fault)) new
      → TakesAll old (fault_answer fault ∷ []) new
  -- a packet, and what is after it
  packet : {old next new : Stream} (packet : Packet) {answers : Answers}
      → Takes old (Ok (Some packet)) next → TakesAll next answers new
      → TakesAll old (packet_fields packet ∷ answers) new

-- a piece, its answers, and the stream after them
pub data Feeds : Stream → List ℕ → Answers → Stream → Type 0 where
  -- a stream without a fault
  piece : {old new : Stream} {piece : List ℕ} {answers : Answers}
      → TakesAll (record old { bytes = old.bytes ++ piece }) answers new
      → Feeds old piece answers new
  -- a stream after a fault
  failed : {old : Stream} {piece : List ℕ} → old.failed ≡ true
      → Feeds old piece (failed_answer ∷ []) old

-- new is old and then what came, of which this holds
abbrev pub Adds : Answers → Answers → (Answers → Type 0) → Type 0
Adds old new holds = (came : Answers) × (new ≡ old ++ came) × holds came

-- a step
abbrev pub StreamDoes : Stream → List Text → Answers → Stream → Type 0
StreamDoes old step answers new =
    (piece : List ℕ) × (step ≡ codes "feed" ∷ piece ∷ []) × Feeds old piece answers new
