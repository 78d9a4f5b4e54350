-- What is read over a link, and what was written to it, over any sequence of calls.
use Rattle.std.specs.Prelude.{◌≡◌, ℕ, false, List, [], ◌∷◌, ◌++◌, map}
use Rattle.lists.specs.Lists.{IsPrefixOf}
use Rattle.links.specs.seal.Frames.{Place}
use Rattle.links.specs.seal.FrameStreams.{all_sealed}
use Rattle.links.specs.frames.Theorems.{Joined}
use Rattle.links.specs.declared.seal.hello.Hello.{Hello}
use Rattle.links.specs.declared.seal.keys.Side.{Side}
use Rattle.links.specs.seal.Hellos.{hello_bytes}
use Rattle.links.specs.seal.Keys.{other_side}
use Rattle.links.specs.declared.parcel.Parcel.{Parcel}
use Rattle.links.specs.declared.parcel.Way.{Way}
use Rattle.links.specs.Handshakes.{opens_from, sends_from}
use Rattle.links.specs.Links.{LinkView, Hands, bytes_in, max_parcel, with_bytes}
use Rattle.links.specs.Parcels.{parcel_bytes}
use Rattle.links.specs.Written.{WriterView, IsCarried, after_write, sealed_parts, with_parcel}

-- a reader of which no byte was fed yet
abbrev pub new_reader : Place → Way → LinkView
new_reader place way =
    record { way = way; place = place; unopened = []; parts = []; failed = false }

-- a reader was fed these bytes since then, in whatever chunks, and handed over these parcels
abbrev pub HasRead : Place → Way → List ℕ → List Parcel → LinkView → Type 0
HasRead place way fed parcels now = Hands (with_bytes (new_reader place way) fed) parcels now

-- what is read in two steps is read in one
abbrev pub ReadingsJoin : Type 0
ReadingsJoin = (old mid new : LinkView) (bytes more : List ℕ) (parcels others : List Parcel)
    → Hands (with_bytes old bytes) parcels mid → Hands (with_bytes mid more) others new
    → Hands (with_bytes old (bytes ++ more)) (parcels ++ others) new

-- A writer after a sequence of calls: the parcels that were added, the bytes that were written, and
-- what it is. A call that changes nothing needs no case.
pub data Wrote (place : Place) : List Parcel → List ℕ → WriterView → Type 0 where
  -- no call yet
  begins : Wrote place [] [] (record { place = place; parts = []; failed = false })
  -- a parcel is added
  adds : {given : List Parcel} {written : List ℕ} {writer : WriterView} (parcel : Parcel)
      → Wrote place given written writer → IsCarried parcel
      → Wrote place (given ++ parcel ∷ []) written (with_parcel writer parcel)
  -- all that was added is written
  writes : {given : List Parcel} {written : List ℕ} {writer : WriterView}
      → Wrote place given written writer
      → Wrote place given (written ++ sealed_parts writer) (after_write writer)

-- if the bytes that were read are a prefix of those that were written from the same place on, what
-- is handed over is a prefix of what was given
abbrev pub LinksHandOverWhatWasGiven : Type 0
LinksHandOverWhatWasGiven =
    (place : Place) (way : Way) (given handed : List Parcel) (fed later : List ℕ)
    (writer : WriterView) (now : LinkView)
    → Wrote place given (fed ++ later) writer → HasRead place way fed handed now
    → IsPrefixOf handed given

-- what is handed over came in frames that bear their tags, and its bytes are what their parts join
-- to
pub record CameSealed (place : Place) (fed : List ℕ) (parcels : List Parcel) : Type 0 where
  pub frames : List (List ℕ)
  pub unopened : List ℕ
  pub parts : List ℕ
  pub bear : fed ≡ all_sealed place frames ++ unopened
  pub joined : Joined max_parcel (bytes_in frames) (map parcel_bytes parcels) parts

abbrev pub AcceptedFramesAreTagged : Type 0
AcceptedFramesAreTagged =
    (place : Place) (way : Way) (fed : List ℕ) (parcels : List Parcel) (now : LinkView)
    → HasRead place way fed parcels now → CameSealed place fed parcels

-- two ends that met read from the place on from which the other writes
abbrev pub EndsHaveOnePlace : Type 0
EndsHaveOnePlace = (side : Side) (key : List ℕ) (own other : Hello)
    → sends_from side key own (hello_bytes other)
    ≡ opens_from (other_side side) key other (hello_bytes own)
