-- Reading a parcel from its bytes, from left to right, up to the first fault.
use Rattle.std.specs.Prelude.{◌≡◌, ℕ, ◌==◌, Bool, true, false, nat_le, if◌then◌else◌, List, [], ◌∷◌, Result, Ok, Err}
use Rattle.topics.specs.declared.malformed.MalformedKind.{MalformedKind}
use Rattle.topics.specs.declared.malformed.MalformedKind.TheVariants as kinds
use Rattle.packet_base.specs.declared.stop.Stop.{Stop}
use Rattle.packet_base.specs.Readers.{◌>>=◌, ◌>>◌, malformed, byte_at, ended}
use Rattle.session_base.specs.Form.{flag_at}
use Rattle.ballot_base.specs.declared.status.Role.{Role}
use Rattle.ballot_base.specs.declared.status.Role.TheVariants as roles
use Rattle.ballot_base.specs.declared.status.Status.{Status}
use Rattle.ballot_base.specs.declared.message.Message.{Message}
use Rattle.broker_spec.specs.declared.command.Command.{Command}
use Rattle.links.specs.message_form.Numbers.{wide_number_at}
use Rattle.links.specs.message_form.CommandReading.{client_at}
use Rattle.links.specs.message_form.Growth.{message_asks}
use Rattle.links.specs.message_form.Outcome.{faulted, message_of}
use Rattle.links.specs.Parcels.{parcel_bytes, IsParcel}
use Rattle.links.specs.declared.parcel.Parcel.{Parcel}
use Rattle.links.specs.declared.parcel.Parcel.TheVariants as parcels

-- the role with this number
abbrev pub role_of : ℕ → Result Role Stop
role_of number =
    if number == 0 then Ok roles.Backup else
    if number == 1 then Ok roles.Fetching else
    if number == 2 then Ok roles.Installing else
    if number == 3 then Ok roles.Active else malformed kinds.Shape

-- a role in one byte
unfoldable pub role_at : List ℕ → Result (Role × List ℕ) Stop
role_at bytes = do
  number ← byte_at bytes
  role ← role_of number.0
  Ok (role, number.1)

-- a status
unfoldable pub status_at : List ℕ → Result (Status × List ℕ) Stop
status_at bytes = do
  ballot ← wide_number_at bytes
  held ← wide_number_at ballot.1
  committed ← wide_number_at held.1
  role ← role_at committed.1
  stopped ← flag_at role.1
  Ok (
    record {
      ballot = ballot.0;
      role = role.0;
      held = held.0;
      committed = committed.0;
      stopped = stopped.0;
    },
    stopped.1,
  )

-- what follows the kind of each notice
unfoldable pub welcome_at : List ℕ → Result (Parcel × List ℕ) Stop
welcome_at bytes = do
  number ← byte_at bytes
  Ok (parcels.Welcome number.0, number.1)

unfoldable pub report_at : List ℕ → Result (Parcel × List ℕ) Stop
report_at bytes = do
  status ← status_at bytes
  Ok (parcels.Report status.0, status.1)

unfoldable pub expel_at : List ℕ → Result (Parcel × List ℕ) Stop
expel_at bytes = do
  client ← client_at bytes
  Ok (parcels.Expel client.0, client.1)

-- the notice of this kind; there are four
abbrev pub notice_of_kind : ℕ → List ℕ → Result (Parcel × List ℕ) Stop
notice_of_kind kind bytes =
    if kind == 128 then welcome_at bytes else
    if kind == 129 then report_at bytes else
    if kind == 130 then expel_at bytes else
    if kind == 131 then Ok (parcels.Crash, bytes) else malformed kinds.Shape

-- a notice, and nothing after it
unfoldable pub whole_notice : List ℕ → Result Parcel Stop
whole_notice bytes = do
  kind ← byte_at bytes
  notice ← notice_of_kind kind.0 kind.1
  ended notice.1
  Ok notice.0

-- the kinds from 128 on are those of notices
abbrev pub is_notice : List ℕ → Bool
is_notice [] = false
is_notice (kind ∷ bytes) = nat_le 128 kind

-- a message as a parcel
abbrev pub carried : Result (Message Command) MalformedKind → Result Parcel MalformedKind
carried (Ok message) = Ok (parcels.Message message)
carried (Err kind) = Err kind

-- the parcel of these bytes, or their first fault
abbrev pub parcel_of : List ℕ → Result Parcel MalformedKind
parcel_of bytes = if is_notice bytes then faulted (whole_notice bytes) else carried (message_of bytes)

-- the kind is that of an Expel
abbrev pub is_expel : List ℕ → Bool
is_expel [] = false
is_expel (kind ∷ bytes) = kind == 130

-- memory may run out for these bytes: for a message where it may for that, and of notices for an
-- Expel
abbrev pub AsksMemory : Bool → List ℕ → Type 0
AsksMemory true bytes = is_expel bytes ≡ true
AsksMemory false bytes = message_asks bytes ≡ Ok true

abbrev pub MayNeedMemory : List ℕ → Type 0
MayNeedMemory bytes = AsksMemory (is_notice bytes) bytes

-- a parcel that was read from these bytes is in its range, and is written to them
abbrev pub IsReadFrom : List ℕ → Parcel → Type 0
IsReadFrom bytes parcel = IsParcel parcel × (bytes ≡ parcel_bytes parcel)
