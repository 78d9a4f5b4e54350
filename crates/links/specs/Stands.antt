-- Why a link's reader hands nothing over: the fault that stands where it came to.
use Rattle.std.specs.Prelude.{◌≡◌, ℕ, true, List, [], Some, Err}
use Rattle.links.specs.frames.Fronts.{Begins}
use Rattle.links.specs.frames.Fronts.Front.{whole, unfinished, broken}
use Rattle.links.specs.seal.Frames.{spent}
use Rattle.links.specs.seal.FrameStreams.{BearsAnother, IsTooLong}
use Rattle.links.specs.declared.parcel.Parcel.{Parcel}
use Rattle.links.specs.declared.parcel.Way.{Way}
use Rattle.links.specs.declared.link_fault.LinkFault.{LinkFault}
use Rattle.links.specs.declared.link_fault.LinkFault.TheVariants as faults
use Rattle.links.specs.Parcels.{parcel_bytes}
use Rattle.links.specs.ParcelReading.{parcel_of}
use Rattle.links.specs.Ways.{fault_of}
use Rattle.links.specs.Links.{LinkView, Hands, max_frame, max_parcel}

-- why the bytes of a parcel are refused
abbrev pub IsRefused : Way → List ℕ → LinkFault → Type 0
IsRefused way bytes (faults.Malformed kind) = parcel_of bytes ≡ Err kind
IsRefused way bytes (faults.Way fault) =
    (parcel : Parcel) × (bytes ≡ parcel_bytes parcel) × (fault_of way parcel ≡ Some fault)
IsRefused way bytes faults.Memory = Unit {0}
IsRefused way bytes fault = ⊥

-- a whole parcel stands at the front of the parts, and is refused
pub record StandsRefused (view : LinkView) (fault : LinkFault) : Type 0 where
  pub bytes : List ℕ
  pub rest : List ℕ
  pub begins : Begins max_parcel view.parts (whole bytes rest)
  pub refused : IsRefused view.way bytes fault

-- why the parts that are there are refused
abbrev pub PartsStand : LinkView → LinkFault → Type 0
PartsStand view (faults.Part fault) = Begins max_parcel view.parts (broken fault)
PartsStand view faults.Memory = Unit {0}
PartsStand view fault = StandsRefused view fault

-- why the frame that is there is refused
abbrev pub FrameStands : LinkView → LinkFault → Type 0
FrameStands view faults.TooLong = IsTooLong max_frame view.unopened
FrameStands view faults.Tag = BearsAnother view.place view.unopened
FrameStands view faults.Spent = view.place.next ≡ spent
FrameStands view faults.Memory = Unit {0}
FrameStands view fault = ⊥

-- a frame is refused once all parcels before it were handed over
abbrev pub StandsBehind : LinkView → LinkFault → Type 0
StandsBehind view fault = Begins max_parcel view.parts unfinished × FrameStands view fault

-- the fault that stands where a reader is
abbrev pub Stands : LinkView → LinkFault → Type 0
Stands view faults.TooLong = StandsBehind view faults.TooLong
Stands view faults.Tag = StandsBehind view faults.Tag
Stands view faults.Spent = StandsBehind view faults.Spent
Stands view faults.Failed = view.failed ≡ true
Stands view fault = PartsStand view fault

-- no parcel is handed over, and why: after some frames were opened, this fault stands there; then
-- nothing more is taken
pub record Refuses (old : LinkView) (fault : LinkFault) (new : LinkView) : Type 0 where
  pub opened : LinkView
  pub opens : Hands old [] opened
  pub stands : Stands opened fault
  pub final : new.failed ≡ true
