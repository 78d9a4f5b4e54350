-- What the master keeps, as 67 bytes.
use Rattle.std.specs.Prelude.{◌≡◌, ℕ, ◌+◌, ◌-◌, Bool, ◌==◌, ◌&&◌, if◌then◌else◌, List, [], ◌∷◌, ◌++◌, length, take, drop, replicate, min, slice_index, Option, Some, None, Result, Ok, Err}
use Rattle.std.specs.Str.{bytes_eq}
use Rattle.std.specs.Int.{w64, to_be_bytes, from_be_bytes}
use Rattle.sha2.specs.Sha256.{sha256}
use Rattle.ballot_base.specs.declared.config.Config.{Config}
use Rattle.ballot_base.specs.LawfulConfig.{max_members, max_number}
use Rattle.cluster.specs.declared.desk.error.FormFault.{FormFault}
use Rattle.cluster.specs.declared.desk.error.FormFault.TheVariants.{Version, Length, Sum, Shape}
use Rattle.cluster.specs.declared.desk.error.OpenError.{OpenError}
use Rattle.cluster.specs.declared.desk.error.OpenError.TheVariants as errors
use Rattle.cluster.specs.desk.States.{DeskState, is_sound}

-- the version of this form
abbrev pub version : ℕ
version = 1

-- bytes before the check sum
abbrev pub summed_length : ℕ
summed_length = 59

-- a number of eight bytes, the high one first
abbrev pub wide : ℕ → List ℕ
wide number = to_be_bytes w64 number

-- members, at most seven: their count, their numbers, and zeros up to seven
abbrev pub padded : List ℕ → List ℕ
padded members = members ++ replicate (max_members - length members) 0

abbrev pub members_bytes : List ℕ → List ℕ
members_bytes members = length members ∷ padded members

-- the ballot that waits, its members and its primary; zeros if none waits
abbrev pub waiting_bytes : Option (ℕ × Config) → List ℕ
waiting_bytes None = replicate 17 0
waiting_bytes (Some (ballot, config)) =
    wide ballot ++ members_bytes config.members ++ config.primary ∷ []

-- the parts, in order: version, cluster, next number, ballots given, active ballot and its members,
-- the ballot that waits
abbrev pub parts : DeskState → List ℕ
parts state =
    (version ∷ []) ++ state.cluster ++ (state.next ∷ []) ++ wide state.master.given
    ++ wide state.master.active ++ members_bytes state.master.members
    ++ waiting_bytes state.master.waiting

-- the first eight bytes of their SHA-256
abbrev pub sum_of : List ℕ → List ℕ
sum_of bytes = take 8 (sha256 bytes)

abbrev pub form : DeskState → List ℕ
form state = parts state ++ sum_of (parts state)

-- ---- reading

abbrev pub wide_at : ℕ → List ℕ → ℕ
wide_at place bytes = from_be_bytes w64 (take 8 (drop place bytes))

abbrev pub members_at : ℕ → List ℕ → List ℕ
members_at place bytes = take (min (slice_index bytes place) max_members) (drop (place + 1) bytes)

abbrev pub waiting_at : ℕ → List ℕ → Option (ℕ × Config)
waiting_at place bytes =
    if wide_at place bytes == 0 then None else
    Some (
      wide_at place bytes,
      record {
        members = members_at (place + 8) bytes;
        primary = slice_index bytes (place + 16);
      },
    )

-- each part at its place
abbrev pub state_at : List ℕ → DeskState
state_at bytes = record {
  cluster = take 16 (drop 1 bytes);
  next = slice_index bytes 17;
  master = record {
    greatest = max_number;
    active = wide_at 26 bytes;
    members = members_at 34 bytes;
    waiting = waiting_at 42 bytes;
    given = wide_at 18 bytes;
  };
}

-- a state is sound, and these are its parts
abbrev pub is_of : DeskState → List ℕ → Bool
is_of state bytes = is_sound state.next state.master && bytes_eq (parts state) bytes

abbrev pub shape_checked : List ℕ → Result DeskState FormFault
shape_checked bytes =
    if is_of (state_at bytes) (take summed_length bytes) then Ok (state_at bytes) else Err Shape

abbrev pub sum_checked : List ℕ → Result DeskState FormFault
sum_checked bytes =
    if bytes_eq (sum_of (take summed_length bytes)) (drop summed_length bytes)
    then shape_checked bytes else Err Sum

abbrev pub length_checked : List ℕ → Result DeskState FormFault
length_checked bytes = if length bytes == summed_length + 8 then sum_checked bytes else Err Length

-- what bytes say: a state, or the first fault
abbrev pub desk_of : List ℕ → Result DeskState FormFault
desk_of [] = Err Length
desk_of (first ∷ rest) =
    if first == version then length_checked (first ∷ rest) else Err (Version first)

-- why bytes are not read: their first fault; or memory ran out, once their check sum was right
abbrev pub IsRefusedSo : List ℕ → OpenError → Type 0
IsRefusedSo bytes (errors.Form fault) = desk_of bytes ≡ Err fault
IsRefusedSo bytes errors.Memory = desk_of bytes ≡ shape_checked bytes
IsRefusedSo bytes errors.NotKept = ⊥

-- the version is this one
abbrev pub VersionIsChecked : List ℕ → Result (Unit {0}) OpenError → Type 0
VersionIsChecked bytes (Ok _) = desk_of bytes ≡ length_checked bytes
VersionIsChecked bytes (Err error) = IsRefusedSo bytes error
