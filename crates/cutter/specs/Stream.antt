-- The packets of a stream of bytes (MQTT 2), and how they are taken from it.
use Rattle.std.specs.Prelude.{◌≡◌, ◌≢◌, ℕ, Bool, true, false, List, [], ◌∷◌, ◌++◌, Option, Some}
use Rattle.std.specs.Prelude.{None, Result, Ok, Err}
use Rattle.topics.specs.declared.malformed.MalformedKind.TheVariants as kinds
use Rattle.packet_base.specs.declared.stop.Stop.TheVariants as stops
use Rattle.packet.specs.Spelling.{Spells, IsPacket}
use Rattle.packet.specs.Verdict.{verdict, MayNeedMemory}
use Rattle.packet.specs.declared.packet.Packet.{Packet}
use Rattle.packet.specs.declared.error.DecodeFault.{DecodeFault}
use Rattle.packet.specs.declared.error.DecodeFault.TheVariants as faults
use Rattle.cutter.specs.declared.error.CutError.{CutError}
use Rattle.cutter.specs.declared.error.CutError.TheVariants as errors

-- the bytes that were received and not yet taken, and whether a fault was found
pub record Stream : Type 0 where
  pub bytes : List ℕ
  pub failed : Bool

-- the bytes are the spelling of this packet, followed by these
abbrev pub GoesOnWith : List ℕ → Packet → List ℕ → Type 0
GoesOnWith bytes packet rest =
    (front : List ℕ) × Spells packet front × IsPacket packet × (bytes ≡ front ++ rest)

-- the bytes do not begin with a whole packet
abbrev pub HasNoFront : List ℕ → Type 0
HasNoFront bytes = (packet : Packet) (rest : List ℕ) → GoesOnWith bytes packet rest → ⊥

-- the whole packets at the front of the bytes, as many as there are, and the bytes after them
abbrev pub CutsInto : List ℕ → List Packet → List ℕ → Type 0
CutsInto bytes [] rest = (bytes ≡ rest) × HasNoFront rest
CutsInto bytes (packet ∷ packets) rest =
    (left : List ℕ) × GoesOnWith bytes packet left × CutsInto left packets rest

-- `decode` finds a fault of the stream; running out of memory is none
abbrev pub IsFault : DecodeFault → List ℕ → Type 0
IsFault (faults.Malformed kind) bytes =
    (kind ≢ kinds.Memory) × (verdict bytes ≡ Err (stops.Malformed kind))
IsFault (faults.Refused code) bytes = verdict bytes ≡ Err (stops.Refused code)

-- the result of `next`, and the stream after it
abbrev pub Takes : Stream → Result (Option Packet) CutError → Stream → Type 0
Takes old (Ok (Some packet)) new =
    (old.failed ≡ false) × (verdict old.bytes ≡ Ok (packet, new.bytes))
    × GoesOnWith old.bytes packet new.bytes × (new.failed ≡ false)
Takes old (Ok None) new =
    (old.failed ≡ false) × (verdict old.bytes ≡ Err stops.More) × (new ≡ old)
Takes old (Err (errors.Decode fault)) new =
    (old.failed ≡ false) × IsFault fault old.bytes × (new ≡ record old { failed = true })
Takes old (Err errors.Memory) new =
    (old.failed ≡ false) × (new ≡ old) × MayNeedMemory old.bytes
Takes old (Err errors.Failed) new = (old.failed ≡ true) × (new ≡ old)
