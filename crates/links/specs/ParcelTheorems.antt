-- Each parcel has one spelling, which is read as that parcel, and begins no other.
use Rattle.std.specs.Prelude.{◌≡◌, ℕ, ◌<◌, ◌^◌, Bool, false, List, length, Ok, IfOk}
use Rattle.packet_base.specs.Readers.{AreBytes}
use Rattle.links.specs.message_form.Theorems.{has_log}
use Rattle.links.specs.Parcels.{parcel_bytes, IsParcel}
use Rattle.links.specs.ParcelReading.{parcel_of, IsReadFrom}
use Rattle.links.specs.declared.parcel.Parcel.{Parcel}
use Rattle.links.specs.declared.parcel.Parcel.TheVariants as parcels

-- what is written is read, and nothing is left
abbrev pub ParcelsAreRead : Type 0
ParcelsAreRead = (parcel : Parcel) → IsParcel parcel → parcel_of (parcel_bytes parcel) ≡ Ok parcel

-- a parcel that was read is in its range, and is written to the bytes that were read
abbrev pub ReadParcelsAreWritten : Type 0
ReadParcelsAreWritten =
    (bytes : List ℕ) → AreBytes bytes → IfOk (parcel_of bytes) (IsReadFrom bytes)

-- whether a parcel carries a log, which may have any length
abbrev pub carries_log : Parcel → Bool
carries_log (parcels.Message message) = has_log message.body
carries_log notice = false

-- each other parcel has less than 2 MiB
abbrev pub OtherParcelsAreShort : Type 0
OtherParcelsAreShort =
    (parcel : Parcel) → IsParcel parcel → carries_log parcel ≡ false
    → length (parcel_bytes parcel) < 2 ^ 21
