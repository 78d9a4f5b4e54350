-- Frames as bytes of a stream.
use Rattle.std.specs.Prelude.{◌≡◌, ◌≢◌, ◌⊎◌, ℕ, ◌+◌, ◌<◌, ◌≤◌, Bool, true, false, List, [], ◌∷◌, ◌++◌, length, take}
use Rattle.std.specs.Int.{w32, to_be_bytes, from_be_bytes}
use Rattle.links.specs.declared.seal.frame_reader.FrameError.{FrameError}
use Rattle.links.specs.declared.seal.frame_reader.FrameError.TheVariants as errors
use Rattle.links.specs.declared.seal.frame_reader.FrameFront.{FrameFront}
use Rattle.links.specs.declared.seal.frame_reader.FrameFront.TheVariants as fronts
use Rattle.links.specs.seal.Frames.{Place, frame_tag, moved_on, spent}

-- a frame as bytes: its length in four bytes, its own bytes, its tag
abbrev pub sealed : Place → List ℕ → List ℕ
sealed place frame =
    to_be_bytes w32 (length frame) ++ frame ++ frame_tag place.key place.next frame

-- frames, one after the other
abbrev pub all_sealed : Place → List (List ℕ) → List ℕ
all_sealed place [] = []
all_sealed place (frame ∷ frames) = sealed place frame ++ all_sealed (moved_on place) frames

-- a reader: the key and the number of the next frame, the most bytes of a frame, the bytes that
-- were fed and not yet taken, and whether a frame was refused
pub record FrameStream : Type 0 where
  pub place : Place
  pub limit : ℕ
  pub bytes : List ℕ
  pub failed : Bool

-- frames are still accepted
abbrev pub IsOpen : FrameStream → Type 0
IsOpen stream = (stream.failed ≡ false) × (stream.place.next < spent)

-- the length that stands at the front
abbrev pub len_at : List ℕ → ℕ
len_at bytes = from_be_bytes w32 (take 4 bytes)

-- a frame has not come whole, with its length and its tag
abbrev pub IsUnfinished : ℕ → List ℕ → Type 0
IsUnfinished limit bytes =
    (length bytes < 4) ⊎ ((len_at bytes ≤ limit) × (length bytes < len_at bytes + 20))

-- a length is over the limit
abbrev pub IsTooLong : ℕ → List ℕ → Type 0
IsTooLong limit bytes = (4 ≤ length bytes) × (limit < len_at bytes)

-- a frame of this length has come whole
pub record IsWhole (limit : ℕ) (bytes : List ℕ) (len : ℕ) : Type 0 where
  pub fits : len ≤ limit
  pub long : len + 20 ≤ length bytes
  pub begins : take 4 bytes ≡ to_be_bytes w32 len

abbrev pub IsFront : ℕ → List ℕ → FrameFront → Type 0
IsFront limit bytes fronts.Unfinished = IsUnfinished limit bytes
IsFront limit bytes fronts.TooLong = IsTooLong limit bytes
IsFront limit bytes (fronts.Whole len) = IsWhole limit bytes len

-- the frame at the front is taken: it bears its tag
pub record Accepts (old : FrameStream) (frame : List ℕ) (new : FrameStream) : Type 0 where
  pub open_before : IsOpen old
  pub fits : length frame ≤ old.limit
  pub bears : old.bytes ≡ sealed old.place frame ++ new.bytes
  pub moved : new ≡ record old { place = moved_on old.place; bytes = new.bytes }

-- no frame is there
abbrev pub Waits : FrameStream → FrameStream → Type 0
Waits old new = IsOpen old × IsUnfinished old.limit old.bytes × (new ≡ old)

-- the frame at the front does not bear its tag
pub record BearsAnother (place : Place) (bytes : List ℕ) : Type 0 where
  pub frame : List ℕ
  pub tag : List ℕ
  pub rest : List ℕ
  pub size : length tag ≡ 16
  pub is : bytes ≡ to_be_bytes w32 (length frame) ++ frame ++ tag ++ rest
  pub other : tag ≢ frame_tag place.key place.next frame

-- the frame at the front bears its tag, and has a byte
pub record BearsIts (place : Place) (bytes : List ℕ) : Type 0 where
  pub frame : List ℕ
  pub rest : List ℕ
  pub some : 0 < length frame
  pub is : bytes ≡ sealed place frame ++ rest

-- no frame is taken, and why
abbrev pub Refuses : FrameStream → FrameError → FrameStream → Type 0
Refuses old errors.TooLong new =
    IsOpen old × IsTooLong old.limit old.bytes × (new ≡ record old { failed = true })
Refuses old errors.Tag new =
    IsOpen old × BearsAnother old.place old.bytes × (new ≡ record old { failed = true })
Refuses old errors.Memory new = IsOpen old × BearsIts old.place old.bytes × (new ≡ old)
Refuses old errors.Failed new =
    ((old.failed ≡ true) ⊎ (old.place.next ≡ spent)) × (new ≡ old)

-- why the frame at the front was not copied
abbrev pub IsShut : Place → List ℕ → FrameError → Type 0
IsShut place bytes errors.Tag = BearsAnother place bytes
IsShut place bytes errors.Memory = BearsIts place bytes
IsShut place bytes _ = ⊥
