-- Worked examples: parcels, and their bytes written by hand; bytes with a fault.
use Rattle.std.specs.Prelude.{◌≡◌, ℕ, true, List, [], ◌∷◌, codes, Ok, Err}
use Rattle.std.specs.List.{AllByRecursion}
use Rattle.topics.specs.declared.malformed.MalformedKind.{MalformedKind}
use Rattle.topics.specs.declared.malformed.MalformedKind.TheVariants as kinds
use Rattle.ballot_base.specs.declared.message.Body.TheVariants as bodies
use Rattle.ballot_base.specs.declared.status.Role.TheVariants as roles
use Rattle.links.specs.declared.parcel.Parcel.{Parcel}
use Rattle.links.specs.declared.parcel.Parcel.TheVariants as parcels
use Rattle.links.specs.Parcels.{parcel_bytes}
use Rattle.links.specs.ParcelReading.{parcel_of}

-- a parcel and its bytes
abbrev pub Row : Type 0
Row = Parcel × List ℕ

abbrev pub AreWrittenSo : List Row → Type 0
AreWrittenSo rows = AllByRecursion (λ row. parcel_bytes row.0 ≡ row.1) rows

abbrev pub AreReadSo : List Row → Type 0
AreReadSo rows = AllByRecursion (λ row. parcel_of row.1 ≡ Ok row.0) rows

-- one of each kind
abbrev pub parcel_rows : List Row
parcel_rows = (
  parcels.Message (record { from = 3; body = bodies.Activate 7 }),
  6 ∷ 3 ∷ 0 ∷ 0 ∷ 0 ∷ 0 ∷ 0 ∷ 0 ∷ 0 ∷ 7 ∷ [],
)
    ∷ (parcels.Welcome 7, 128 ∷ 7 ∷ [])
    ∷ (
      parcels.Report
          (record { ballot = 258; role = roles.Installing; held = 7; committed = 6; stopped = true }),
      129 ∷ 0 ∷ 0 ∷ 0 ∷ 0 ∷ 0 ∷ 0 ∷ 1 ∷ 2 ∷ 0 ∷ 0 ∷ 0 ∷ 0 ∷ 0 ∷ 0 ∷ 0 ∷ 7
          ∷ 0 ∷ 0 ∷ 0 ∷ 0 ∷ 0 ∷ 0 ∷ 0 ∷ 6 ∷ 2 ∷ 1 ∷ [],
    )
    ∷ (parcels.Expel (codes "ab"), 130 ∷ 0 ∷ 2 ∷ 0x61 ∷ 0x62 ∷ [])
    ∷ (parcels.Crash, 131 ∷ [])
    ∷ []

-- bytes, and the fault that is reported for them
abbrev pub AllCount : List (List ℕ × MalformedKind) → Type 0
AllCount rows = AllByRecursion (λ row. parcel_of row.0 ≡ Err row.1) rows

-- nothing; no kinds 12, 127 and 132; a number that is missing; a byte left over; a client of no byte
abbrev pub fault_rows : List (List ℕ × MalformedKind)
fault_rows =
    ([], kinds.Shape)
    ∷ (12 ∷ 3 ∷ [], kinds.Shape)
    ∷ (127 ∷ 3 ∷ [], kinds.Shape)
    ∷ (132 ∷ [], kinds.Shape)
    ∷ (128 ∷ [], kinds.Shape)
    ∷ (131 ∷ 0 ∷ [], kinds.Shape)
    ∷ (130 ∷ 0 ∷ 0 ∷ [], kinds.Identifier)
    ∷ []
