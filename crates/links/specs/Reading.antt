-- What a reader hands over of what a device gave.
use Rattle.std.specs.Prelude.{◌≡◌, ◌≢◌, ℕ, true, Option, List, ◌++◌, Result, Ok, Err}
use Rattle.std.specs.Io.KnownBytes.{Consumes, Keeps}
use Rattle.links.specs.declared.parcel.Parcel.{Parcel}
use Rattle.links.specs.declared.link_fault.LinkFault.{LinkFault}
use Rattle.links.specs.declared.link_fault.LinkFault.TheVariants.{Memory}
use Rattle.links.specs.declared.reading.LinkReadError.{LinkReadError}
use Rattle.links.specs.declared.reading.LinkReadError.TheVariants.{Device, Link}
use Rattle.links.specs.Links.{LinkView, Hands, IsDry, with_bytes}
use Rattle.links.specs.Stands.{Stands}

-- how a handing over ends: with all parcels that are whole, or at a fault, which is final
abbrev pub EndsSo : Result (Unit {0}) LinkFault → LinkView → LinkView → Type 0
EndsSo (Ok done) came new = (new ≡ came) × IsDry new
EndsSo (Err fault) came new = Stands came fault × (new.failed ≡ true)

-- the sink took these parcels, which were whole
pub record HandsOver
    (old new : LinkView) (result : Result (Unit {0}) LinkFault) (before after : List Parcel)
    : Type 0 where
  pub parcels : List Parcel
  pub came : LinkView
  pub heard : after ≡ before ++ parcels
  pub hands : Hands old parcels came
  pub ends : EndsSo result came new

-- what became of a piece that the device gave: it was added, unless memory ran out
abbrev pub AddsSo : Result (Unit {0}) LinkFault → List ℕ → List ℕ → Type 0
AddsSo (Ok done) piece added = added ≡ piece
AddsSo (Err fault) piece added = fault ≢ Memory → added ≡ piece

-- the device gave this piece, and the sink took the parcels that are whole with it
pub record ReadsPiece
    (old new : LinkView) (result : Result (Unit {0}) LinkFault) (before after : List Parcel)
    (unread left : Option (List ℕ))
    : Type 0 where
  pub piece : List ℕ
  pub added : List ℕ
  pub gave : Consumes unread left piece
  pub adds : AddsSo result piece added
  pub hands : HandsOver (with_bytes old added) new result before after

-- what a reading does; a device that gives nothing changes nothing
abbrev pub Reads :
    LinkView → LinkView → Result (Unit {0}) LinkReadError → List Parcel → List Parcel →
    Option (List ℕ) → Option (List ℕ) → Type 0
Reads old new (Ok done) before after unread left =
    ReadsPiece old new (Ok done) before after unread left
Reads old new (Err (Device fault)) before after unread left =
    (new ≡ old) × (after ≡ before) × Keeps unread left
Reads old new (Err (Link fault)) before after unread left =
    ReadsPiece old new (Err fault) before after unread left
