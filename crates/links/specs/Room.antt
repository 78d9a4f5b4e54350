-- When a parcel is not written.
use Rattle.std.specs.Prelude.{ℕ, Vec}
use Rattle.links.specs.message_form.Messages as messages
use Rattle.links.specs.message_form.Room as message_room
use Rattle.links.specs.Parcels.{parcel_bytes}
use Rattle.links.specs.declared.parcel.Parcel.{Parcel}
use Rattle.links.specs.declared.parcel.Parcel.TheVariants as parcels

-- a message has a list of too many members
abbrev pub IsTooLarge : Parcel → Type 0
IsTooLarge (parcels.Message message) = messages.IsTooLarge message
IsTooLarge notice = ⊥

-- memory may run out: for a message where it may for that, for a notice if the vector has too
-- little room
abbrev pub MayRunOut : {Z : Type 0} → Vec ℕ Z → Parcel → Type 0
MayRunOut vector (parcels.Message message) = message_room.MayRunOut vector message
MayRunOut vector notice = message_room.IsFull vector (parcel_bytes notice)
