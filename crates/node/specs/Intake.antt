-- The intake budget of a node: when it takes no more from its clients, because other members lag.
use Rattle.std.specs.Prelude.{ℕ, ◌+◌, ◌-◌, ◌≤◌, Bool, ◌&&◌, nat_le, min, if◌then◌else◌, Option, Some, None}
use Rattle.ballot_base.specs.declared.status.Status.{Status}
use Rattle.ballot_base.specs.Replica.{is_active}
use Rattle.node_base.specs.declared.devices.counted.TheConstants.{PIECE_BYTES}
use Rattle.node.specs.declared.intake.TheConstants.{MAX_IN_TRANSIT, MAX_OPEN, MAX_OPEN_BYTES}

-- The bytes that a node took or takes from its clients and that are not known to be held by every
-- member. Some are in transit to it. Of those taken, `earlier` are in the first `earlier_end`
-- places of its log, and `later` in places after these.
pub record IntakeView : Type 0 where
  pub status : Option Status
  pub in_transit : ℕ
  pub earlier_end : ℕ
  pub earlier : ℕ
  pub later : ℕ

-- how many places of an active primary's log are not known to be held by every member; 0 for any
-- other node
abbrev pub open_places : Option Status → ℕ
open_places None = 0
open_places (Some status) = if is_active status.role then status.held - status.committed else 0

-- the bound on open places under which more bytes are admitted
abbrev pub max_open : ℕ
max_open = MAX_OPEN

-- the bound on taken bytes not known to be agreed under which more are admitted: 64 MiB
abbrev pub max_open_bytes : ℕ
max_open_bytes = MAX_OPEN_BYTES

-- the bound on bytes in transit under which more are admitted: 256 KiB
abbrev pub max_in_transit : ℕ
max_in_transit = MAX_IN_TRANSIT

-- whether the node admits more bytes from its clients
abbrev pub admits : IntakeView → Bool
admits intake = nat_le (open_places intake.status) max_open
    && (nat_le (intake.earlier + intake.later) max_open_bytes
    && nat_le intake.in_transit max_in_transit)

-- how many bytes there may be at most of both: the two bounds, and one more piece
abbrev pub max_taken : ℕ
max_taken = max_open_bytes + max_in_transit + PIECE_BYTES

-- all bytes taken and not known to be agreed, with those in transit, are within `max_taken`
abbrev pub IsBounded : IntakeView → Type 0
IsBounded intake = intake.in_transit + (intake.earlier + intake.later) ≤ max_taken

-- bytes that were in transit were taken
abbrev pub took : ℕ → IntakeView → IntakeView
took bytes intake = record intake {
  in_transit = intake.in_transit - min bytes intake.in_transit;
  later = intake.later + min bytes intake.in_transit;
}

-- whether the first `earlier_end` places are agreed, or the whole log
abbrev pub is_agreed : ℕ → Status → Bool
is_agreed earlier_end status = nat_le (min earlier_end status.held) status.committed

-- The node shows its status. Once the first `earlier_end` places are agreed, the later bytes become
-- the earlier ones.
abbrev pub status_shown : Status → IntakeView → IntakeView
status_shown status intake =
    if is_agreed intake.earlier_end status
    then record intake {
      status = Some status;
      earlier_end = status.held;
      earlier = intake.later;
      later = 0;
    }
    else record intake { status = Some status }
