-- What a link's writer is, and the frames that it writes.
use Rattle.std.specs.Prelude.{◌⊎◌, ℕ, zero, suc, ◌-◌, ◌/◌, ◌<◌, ◌≤◌, Bool, List, [], ◌∷◌, ◌++◌, length, take, drop}
use Rattle.links.specs.frames.Parts.{parts_of}
use Rattle.links.specs.seal.Frames.{Place}
use Rattle.links.specs.seal.FrameStreams.{all_sealed}
use Rattle.links.specs.declared.parcel.Parcel.{Parcel}
use Rattle.links.specs.Links.{max_frame, max_parcel, place_after}
use Rattle.links.specs.Parcels.{parcel_bytes, IsParcel}
use Rattle.links.specs.Room.{IsTooLarge}

-- a writer: the place of the next frame, the parts that are not yet in a frame, and whether a write
-- has failed
pub record WriterView : Type 0 where
  pub place : Place
  pub parts : List ℕ
  pub failed : Bool

-- this number of full frames, and then the last one
abbrev pub in_frames : ℕ → List ℕ → List (List ℕ)
in_frames zero parts = parts ∷ []
in_frames (suc full) parts = take max_frame parts ∷ in_frames full (drop max_frame parts)

-- The frames of some parts: all but the last are full, and the last is empty only if there are no
-- parts. Parcels share a frame where they fit.
abbrev pub frames_of : List ℕ → List (List ℕ)
frames_of parts = in_frames ((length parts - 1) / max_frame) parts

-- one more parcel
abbrev pub with_parcel : WriterView → Parcel → WriterView
with_parcel writer parcel = record writer { parts = writer.parts ++ parts_of (parcel_bytes parcel) }

-- the bytes of all parts that wait, as they are sealed
abbrev pub sealed_parts : WriterView → List ℕ
sealed_parts writer = all_sealed writer.place (frames_of writer.parts)

-- the writer once they are written
abbrev pub after_write : WriterView → WriterView
after_write writer =
    record writer { place = place_after writer.place (frames_of writer.parts); parts = [] }

-- a parcel that a link carries
pub record IsCarried (parcel : Parcel) : Type 0 where
  pub fits : IsParcel parcel
  pub short : length (parcel_bytes parcel) ≤ max_parcel

-- a parcel that no link carries: it cannot be written, or has more than 1 GiB
abbrev pub IsTooLong : Parcel → Type 0
IsTooLong parcel = IsTooLarge parcel ⊎ (max_parcel < length (parcel_bytes parcel))
