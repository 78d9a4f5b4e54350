-- What the parts of `LinkReader::next` do. Cited by private clauses alone.
use Rattle.std.specs.Prelude.{◌≡◌, ℕ, List, [], ◌∷◌, ◌++◌}
use Rattle.links.specs.frames.Fronts.{Begins}
use Rattle.links.specs.frames.Fronts.Front.{whole}
use Rattle.links.specs.seal.FrameStreams.{all_sealed}
use Rattle.links.specs.declared.parcel.Parcel.{Parcel}
use Rattle.links.specs.Parcels.{parcel_bytes}
use Rattle.links.specs.Links.{LinkView, AreShort, Comes, bytes_in, max_parcel, place_after}

-- these frames are opened: each bears the tag of its place, and their bytes join the parts
pub record Opens (old : LinkView) (frames : List (List ℕ)) (new : LinkView) : Type 0 where
  pub short : AreShort frames
  pub bear : old.unopened ≡ all_sealed old.place frames ++ new.unopened
  pub place : new.place ≡ place_after old.place frames
  pub parts : new.parts ≡ old.parts ++ bytes_in frames
  pub way : new.way ≡ old.way
  pub failed : new.failed ≡ old.failed

-- one frame is opened
abbrev pub OpensOne : LinkView → LinkView → Type 0
OpensOne old new = (frame : List ℕ) × Opens old (frame ∷ []) new

-- this parcel stands at the front of the parts, and is taken
pub record Takes (old : LinkView) (parcel : Parcel) (new : LinkView) : Type 0 where
  pub begins : Begins max_parcel old.parts (whole (parcel_bytes parcel) new.parts)
  pub comes : Comes old.way parcel
  pub same : new ≡ record old { parts = new.parts }
