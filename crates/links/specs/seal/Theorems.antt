-- Theorems about hellos, keys and frames, proved by `src/theorems.rt`.
use Rattle.std.specs.Prelude.{◌≡◌, ◌⊎◌, ℕ, ◌<◌, ◌^◌, true, false, List, [], ◌∷◌, ◌++◌, length, drop, get_or, Ok}
use Rattle.std.specs.Int.{w64, to_be_bytes}
use Rattle.links.specs.declared.seal.hello.Hello.{Hello}
use Rattle.links.specs.declared.seal.membership.Membership.{Membership}
use Rattle.links.specs.seal.Clusters.{accepts, cluster_of, IsFirstContact}
use Rattle.links.specs.declared.seal.keys.Side.{Side}
use Rattle.links.specs.declared.seal.keys.Purpose.{Purpose}
use Rattle.links.specs.seal.Hellos.{IsHello, hello_bytes, hello_of}
use Rattle.links.specs.seal.Keys.{derived_at, other_side, purpose_byte, seals}
use Rattle.links.specs.seal.FrameStreams.{FrameStream, Accepts, all_sealed}

-- each number is a byte
abbrev pub AreBytes : List ℕ → Type 0
AreBytes bytes = (index : ℕ) → get_or bytes index 0 < 256

-- a hello that was written is read, by an end of its rules that accepts its cluster
abbrev pub HelloIsRead : Type 0
HelloIsRead = (membership : Membership) (hello : Hello) (rest : List ℕ) → IsHello hello
    → accepts membership hello.cluster ≡ true
    → hello_of hello.rules membership (hello_bytes hello ++ rest) ≡ Ok hello

-- what is read as a hello begins with the bytes of this hello
abbrev pub HelloIsWritten : Type 0
HelloIsWritten = (rules : ℕ) (membership : Membership) (bytes : List ℕ) (hello : Hello)
    → AreBytes bytes → hello_of rules membership bytes ≡ Ok hello
    → bytes ≡ hello_bytes hello ++ drop 55 bytes

-- and is of these rules, and of a cluster that is accepted
abbrev pub HelloIsAccepted : Type 0
HelloIsAccepted = (rules : ℕ) (membership : Membership) (bytes : List ℕ) (hello : Hello)
    → hello_of rules membership bytes ≡ Ok hello
    → (hello.rules ≡ rules) × (accepts membership hello.cluster ≡ true)

-- two ends that accept each other are of one cluster, or its master meets a newcomer
abbrev pub EndsAreOfOneCluster : Type 0
EndsAreOfOneCluster = (one other : Membership)
    → accepts one (cluster_of other) ≡ true → accepts other (cluster_of one) ≡ true
    → (cluster_of one ≡ cluster_of other) ⊎ IsFirstContact one other

-- what one end seals with is what the other opens with
abbrev pub EndsHaveOneKey : Type 0
EndsHaveOneKey = (side : Side) (key own other : List ℕ)
    → derived_at side key (seals side) own other
    ≡ derived_at (other_side side) key (seals (other_side (other_side side))) other own

-- A reader after a sequence of calls: all bytes that it was fed, in chunks of any size, the frames
-- that it returned, and what it is. A call that returns no frame needs no case.
pub data Opened (key : List ℕ) (limit : ℕ) : List ℕ → List (List ℕ) → FrameStream → Type 0 where
  -- no call yet
  opens : Opened key limit [] []
      (record { place = record { key = key; next = 0 }; limit = limit; bytes = []; failed = false })
  -- a chunk is fed
  feeds : {fed : List ℕ} {given : List (List ℕ)} {reader : FrameStream} (chunk : List ℕ)
      → Opened key limit fed given reader
      → Opened key limit (fed ++ chunk) given
      (record reader { bytes = reader.bytes ++ chunk })
  -- `next` returns a frame
  gives : {fed : List ℕ} {given : List (List ℕ)} {old new : FrameStream} (frame : List ℕ)
      → Opened key limit fed given old → Accepts old frame new
      → Opened key limit fed (given ++ frame ∷ []) new

-- What was fed is the frames that were returned, each under this key and with the number of its
-- place, from 0 on, and what is not yet taken.
abbrev pub FramesAreThoseSealed : Type 0
FramesAreThoseSealed =
    (key fed : List ℕ) (limit : ℕ) (given : List (List ℕ)) (reader : FrameStream)
    → Opened key limit fed given reader
    → fed ≡ all_sealed (record { key = key; next = 0 }) given ++ reader.bytes

-- what the tag of a frame is computed of
abbrev pub tag_input : ℕ → List ℕ → List ℕ
tag_input number frame = to_be_bytes w64 number ++ to_be_bytes w64 (length frame) ++ frame

-- it tells frames and their numbers apart: an altered, moved or repeated frame that is accepted
-- bears a tag of other bytes
abbrev pub TagInputsDiffer : Type 0
TagInputsDiffer = (number other : ℕ) (frame altered : List ℕ) → number < 2 ^ 64 → other < 2 ^ 64
    → tag_input number frame ≡ tag_input other altered → (number ≡ other) × (frame ≡ altered)

-- what a key of a connection is computed of
abbrev pub key_input : Purpose → List ℕ → List ℕ → List ℕ
key_input purpose dialler listener = (purpose_byte purpose ∷ []) ++ dialler ++ listener

-- it tells purposes and hellos apart, so each connection and direction has other bytes there
abbrev pub KeyInputsDiffer : Type 0
KeyInputsDiffer = (purpose another : Purpose) (dialler listener calling called : List ℕ)
    → length dialler ≡ length calling
    → key_input purpose dialler listener ≡ key_input another calling called
    → (purpose ≡ another) × (dialler ≡ calling) × (listener ≡ called)
