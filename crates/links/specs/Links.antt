-- What a link's reader is, and what its calls do.
use Rattle.std.specs.Prelude.{◌≡◌, ℕ, ◌+◌, ◌^◌, ◌≤◌, Bool, List, [], ◌∷◌, ◌++◌, length, map, flat_map, None}
use Rattle.lists.specs.Lists.{Each}
use Rattle.links.specs.frames.Fronts.{Begins}
use Rattle.links.specs.frames.Fronts.Front.{whole, unfinished}
use Rattle.links.specs.seal.Frames.{Place}
use Rattle.links.specs.seal.FrameStreams.{IsUnfinished, all_sealed}
use Rattle.links.specs.declared.parcel.Parcel.{Parcel}
use Rattle.links.specs.declared.parcel.Way.{Way}
use Rattle.links.specs.Parcels.{parcel_bytes, IsParcel}
use Rattle.links.specs.Ways.{fault_of}

-- the most bytes of a frame
abbrev pub max_frame : ℕ
max_frame = 65536

-- the most bytes of a parcel: 1 GiB, for a log; each other has less than 2 MiB
abbrev pub max_parcel : ℕ
max_parcel = 2 ^ 30

-- a reader: which way its parcels come, the place of the next frame, the bytes that were fed and
-- are not yet opened, the bytes of frames that are not yet a parcel, and whether it has failed
pub record LinkView : Type 0 where
  pub way : Way
  pub place : Place
  pub unopened : List ℕ
  pub parts : List ℕ
  pub failed : Bool

-- the reader with more bytes to open
abbrev pub with_bytes : LinkView → List ℕ → LinkView
with_bytes view bytes = record view { unopened = view.unopened ++ bytes }

-- the bytes of frames
abbrev pub bytes_in : List (List ℕ) → List ℕ
bytes_in frames = flat_map (λ frame. frame) frames

-- frames that are not too long
abbrev pub AreShort : List (List ℕ) → Type 0
AreShort frames = Each (λ frame. length frame ≤ max_frame) frames

-- the place after some frames
abbrev pub place_after : Place → List (List ℕ) → Place
place_after place frames = record place { next = place.next + length frames }

-- A stream of parts is these messages, one after the other, and this rest.
abbrev pub Join : List ℕ → List (List ℕ) → List ℕ → Type 0
Join stream [] rest = stream ≡ rest
Join stream (message ∷ messages) rest =
    (behind : List ℕ) × Begins max_parcel stream (whole message behind)
    × Join behind messages rest

-- a parcel that may come this way
pub record Comes (way : Way) (parcel : Parcel) : Type 0 where
  pub fits : IsParcel parcel
  pub may : fault_of way parcel ≡ None

-- These parcels are handed over: frames are opened, each of which bears the tag of its place, and
-- with their bytes the parts are those of these parcels, and what is not yet a parcel.
pub record Hands (old : LinkView) (parcels : List Parcel) (new : LinkView) : Type 0 where
  pub frames : List (List ℕ)
  pub short : AreShort frames
  pub bear : old.unopened ≡ all_sealed old.place frames ++ new.unopened
  pub place : new.place ≡ place_after old.place frames
  pub join : Join (old.parts ++ bytes_in frames) (map parcel_bytes parcels) new.parts
  pub come : Each (Comes old.way) parcels
  pub way : new.way ≡ old.way
  pub failed : new.failed ≡ old.failed

-- no whole parcel is there, and no whole frame
abbrev pub IsDry : LinkView → Type 0
IsDry view = Begins max_parcel view.parts unfinished × IsUnfinished max_frame view.unopened
