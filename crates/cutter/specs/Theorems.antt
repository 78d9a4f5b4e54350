-- Theorems about streams, proved by `src/theorems.rt`.
use Rattle.std.specs.Prelude.{◌≡◌, false, ℕ, List, [], ◌∷◌, ◌++◌, Option, Some, None}
use Rattle.std.specs.Prelude.{Result, Ok}
use Rattle.packet.specs.declared.packet.Packet.{Packet}
use Rattle.packet_base.specs.Readers.{AreBytes}
use Rattle.cutter.specs.declared.error.CutError.{CutError}
use Rattle.cutter.specs.Stream.{Stream, CutsInto, Takes}

-- any two cuts of a stream are equal
abbrev pub OneCut : Type 0
OneCut = (bytes : List ℕ) (packets others : List Packet) (rest left : List ℕ)
    → CutsInto bytes packets rest → CutsInto bytes others left → (packets ≡ others) × (rest ≡ left)

-- A cutter after a sequence of calls, with all bytes that it was fed and all packets that it
-- returned. A call that changes nothing needs no case.
pub data CutterRan : List ℕ → List Packet → Stream → Type 0 where
  -- no call yet
  begins : CutterRan [] [] (record { bytes = []; failed = false })
  -- a chunk is fed
  feeds : {fed : List ℕ} {given : List Packet} {stream : Stream} (piece : List ℕ)
      → CutterRan fed given stream → CutterRan (fed ++ piece) given
      (record stream { bytes = stream.bytes ++ piece })
  -- `next` returns a packet
  gives : {fed : List ℕ} {given : List Packet} {old new : Stream} (packet : Packet)
      → CutterRan fed given old → Takes old (Ok (Some packet)) new →
      CutterRan fed (given ++ packet ∷ []) new
  -- `next` returns that no whole packet is there, or a fault
  answers : {fed : List ℕ} {given : List Packet} {old new : Stream}
      (result : Result (Option Packet) CutError)
      → CutterRan fed given old → new.bytes ≡ old.bytes → Takes old result new →
      CutterRan fed given new

-- the returned packets are a prefix of the packets of the bytes that were fed
abbrev pub PacketsOfTheStream : Type 0
PacketsOfTheStream = (fed : List ℕ) (given : List Packet) (stream : Stream)
    → CutterRan fed given stream
    → (packets : List Packet) (rest : List ℕ) → CutsInto fed packets rest
    → (later : List Packet) × (packets ≡ given ++ later)

-- every list of bytes is split into packets and a rest that begins with no whole packet
abbrev pub EveryStreamIsCut : Type 0
EveryStreamIsCut = (bytes : List ℕ) → AreBytes bytes
    → (packets : List Packet) × (rest : List ℕ) × CutsInto bytes packets rest

-- once `next` returns no packet, all packets of the bytes that were fed were returned, and the rest
-- is not taken
abbrev pub NoPacketIsLeft : Type 0
NoPacketIsLeft =
    (fed : List ℕ) (given : List Packet) (old new : Stream) → CutterRan fed given old →
    Takes old (Ok None) new
    → CutsInto fed given old.bytes

-- two cutters that were fed the same bytes, split anywhere, returned the same packets and hold the
-- same bytes
abbrev pub CuttingsAgree : Type 0
CuttingsAgree = (fed : List ℕ) (given others : List Packet)
    (first first_after second second_after : Stream)
    → CutterRan fed given first → Takes first (Ok None) first_after
    → CutterRan fed others second → Takes second (Ok None) second_after
    → (given ≡ others) × (first.bytes ≡ second.bytes)
