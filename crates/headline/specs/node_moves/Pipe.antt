-- A pipe into which packets are written, and the cutter at its other end.
use Rattle.std.specs.Prelude.{◌≡◌, ℕ, false, List, [], ◌∷◌, ◌++◌, length, slice_get, Some, Ok, Err}
use Rattle.packet.specs.declared.packet.Packet.{Packet}
use Rattle.packet.specs.Spelling.{Spells, IsPacket}
use Rattle.cutter.specs.Stream.{Stream, Takes}
use Rattle.cutter.specs.declared.error.CutError.{CutError}
use Rattle.cutter.specs.declared.error.CutError.TheVariants as errors

-- the bytes are the encoded packets, joined
abbrev pub Joins : List Packet → List ℕ → Type 0
Joins [] bytes = bytes ≡ []
Joins (packet ∷ packets) bytes =
    (front : List ℕ) × (rest : List ℕ) × Spells packet front × IsPacket packet
    × (bytes ≡ front ++ rest) × Joins packets rest

-- The packets written on one side are those handled on the other, followed by those in the bytes
-- that the cutter holds and that are still in transit. No fault was found.
pub record IsPiped (written handled : List Packet) (stream : Stream)
    (in_transit : List ℕ) : Type 0 where
  pub rest : List Packet
  pub is : written ≡ handled ++ rest
  pub joined : Joins rest (stream.bytes ++ in_transit)
  pub sound : stream.failed ≡ false

-- nothing is written yet
abbrev pub PipeOpens : Type 0
PipeOpens = IsPiped [] [] (record { bytes = []; failed = false }) []

-- a packet is written: its encoding is appended at the far end
abbrev pub PipeGrows : Type 0
PipeGrows =
    (written handled : List Packet) (stream : Stream) (in_transit bytes : List ℕ) (packet : Packet)
    → IsPiped written handled stream in_transit
    → Spells packet bytes → IsPacket packet →
    IsPiped (written ++ packet ∷ []) handled stream (in_transit ++ bytes)

-- bytes are carried, split anywhere
abbrev pub PipeCarries : Type 0
PipeCarries =
    (written handled : List Packet) (stream : Stream) (piece in_transit : List ℕ)
    → IsPiped written handled stream (piece ++ in_transit)
    → IsPiped written handled (record stream { bytes = stream.bytes ++ piece }) in_transit

-- the next packet that the cutter returns is the next one written
abbrev pub PipeGives : Type 0
PipeGives =
    (written handled : List Packet) (old new : Stream) (in_transit : List ℕ) (packet : Packet)
    → IsPiped written handled old in_transit
    → Takes old (Ok (Some packet)) new → IsPiped written (handled ++ packet ∷ []) new in_transit

-- the cutter returns the packet that was written at the index that counts those handled
abbrev pub PipeGivesNext : Type 0
PipeGivesNext =
    (written handled : List Packet) (old new : Stream) (in_transit : List ℕ) (packet : Packet)
    → IsPiped written handled old in_transit
    → Takes old (Ok (Some packet)) new → slice_get written (length handled) ≡ Some packet

-- the cutter of a pipe never reports a fault
abbrev pub PipeHasNoFault : Type 0
PipeHasNoFault =
    (written handled : List Packet) (old new : Stream) (in_transit : List ℕ) (error : CutError)
    → IsPiped written handled old in_transit
    → Takes old (Err error) new → error ≡ errors.Memory
