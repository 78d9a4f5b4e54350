-- What goes over a link as bytes: a message as it is spelled, and notices between a node and the
-- master, whose kinds are above those of messages.
use Rattle.std.specs.Prelude.{◌≡◌, ℕ, ◌<◌, ◌^◌, true, List, [], ◌∷◌, ◌++◌}
use Rattle.packet_base.specs.Spelling.{text, bit}
use Rattle.packet_base.specs.ClientId.{is_client}
use Rattle.ballot_base.specs.declared.status.Role.{Role}
use Rattle.ballot_base.specs.declared.status.Role.TheVariants as roles
use Rattle.ballot_base.specs.declared.status.Status.{Status}
use Rattle.links.specs.message_form.Numbers.{wide_number, IsWide}
use Rattle.links.specs.message_form.Messages.{written, IsMessage}
use Rattle.links.specs.declared.parcel.Parcel.{Parcel}
use Rattle.links.specs.declared.parcel.Parcel.TheVariants as parcels

-- the number of a role
abbrev pub role_number : Role → ℕ
role_number roles.Backup = 0
role_number roles.Fetching = 1
role_number roles.Installing = 2
role_number roles.Active = 3

-- a status: three numbers of eight bytes, the role, and whether the replica has stopped
abbrev pub status_bytes : Status → List ℕ
status_bytes status =
    wide_number status.ballot
    ++ (wide_number status.held
    ++ (wide_number status.committed ++ (role_number status.role ∷ bit status.stopped ∷ [])))

-- a parcel; the kinds of messages are 1 to 11
abbrev pub parcel_bytes : Parcel → List ℕ
parcel_bytes (parcels.Message message) = written message
parcel_bytes (parcels.Welcome number) = 128 ∷ number ∷ []
parcel_bytes (parcels.Report status) = 129 ∷ status_bytes status
parcel_bytes (parcels.Expel client) = 130 ∷ text client
parcel_bytes parcels.Crash = 131 ∷ []

-- each part of a parcel is in its range, as in every parcel of a program whose message is not too
-- large to be written
abbrev pub IsParcel : Parcel → Type 0
IsParcel (parcels.Message message) = IsMessage message
IsParcel (parcels.Welcome number) = number < 2 ^ 8
IsParcel (parcels.Report status) =
    IsWide status.ballot × IsWide status.held × IsWide status.committed
IsParcel (parcels.Expel client) = is_client client ≡ true
IsParcel parcels.Crash = Unit {0}
