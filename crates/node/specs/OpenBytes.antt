-- How the count of bytes that are not known to be agreed changes while a node's log only grows.
use Rattle.std.specs.Prelude.{ℕ, ◌+◌, ◌≤◌, nat_lt, min, if◌then◌else◌, List, [], ◌∷◌, Option, Some, None}
use Rattle.ballot_base.specs.declared.status.Status.{Status}
use Rattle.node.specs.Intake.{IntakeView, status_shown, took}

-- bytes that a node took, and how long its log was then
pub record Taken : Type 0 where
  pub bytes : ℕ
  pub places : ℕ

-- how many of these bytes may be in places from `places` on
abbrev pub bytes_behind : ℕ → List Taken → ℕ
bytes_behind places [] = 0
bytes_behind places (taken ∷ others) =
    (if nat_lt places taken.places then taken.bytes else 0) + bytes_behind places others

-- how many places the log has; 0 before the node is served
abbrev pub held_of : Option Status → ℕ
held_of None = 0
held_of (Some status) = status.held

-- how many commands are committed; 0 before the node is served
abbrev pub committed_of : Option Status → ℕ
committed_of None = 0
committed_of (Some status) = status.committed

-- The intake of a node that took these bytes, newest first. Between two statuses neither the length
-- of the log nor the agreed part falls.
pub data Counts : List Taken → IntakeView → Type 0 where
  -- nothing was taken yet
  begins : Counts []
      (record { status = None; in_transit = 0; earlier_end = 0; earlier = 0; later = 0 })
  -- bytes are admitted
  admits : {all : List Taken} {intake : IntakeView} (bytes : ℕ) → Counts all intake
      → Counts all (record intake { in_transit = intake.in_transit + bytes })
  -- bytes are taken
  takes : {all : List Taken} {intake : IntakeView} (bytes : ℕ) → Counts all intake
      → Counts
      (record { bytes = min bytes intake.in_transit; places = held_of intake.status } ∷ all)
      (took bytes intake)
  -- the status is shown
  shows : {all : List Taken} {intake : IntakeView} (status : Status) → Counts all intake
      → held_of intake.status ≤ status.held → committed_of intake.status ≤ status.committed
      → Counts all (status_shown status intake)
