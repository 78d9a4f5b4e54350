-- Which outputs left a group, and in which order.
use Rattle.std.specs.Prelude.{ℕ, ◌<◌, ◌≤◌, ◌≡◌, ◌⊎◌, List, length, slice_get, Some}
use Rattle.std.specs.List.{flat_map}
use Rattle.machine.specs.Machine.{Rules}
use Rattle.lists.specs.Lists.{In}
use Rattle.agreement.specs.whole_logs.Application.{outputs_between}
use Rattle.agreement.specs.Moments.{Moment, WasActive}
use Rattle.agreement.specs.World.{GroupWorld, outputs}

-- the places whose outputs one commit returned: in which ballot, from which place to which
pub record Segment : Type 0 where
  pub ballot : ℕ
  pub first : ℕ
  pub end : ℕ

-- of two segments, the one of the lower ballot comes before the other in the list; of one ballot,
-- the one that left first
abbrev pub AreInOrder : List Segment → Type 0
AreInOrder segments =
    (index other_index : ℕ) (segment other : Segment) →
    slice_get segments index ≡ Some segment → slice_get segments other_index ≡ Some other →
    (segment.ballot < other.ballot) ⊎ ((segment.ballot ≡ other.ballot) × (index < other_index)) →
    segment.end ≤ other.first

-- the outputs that left are the machine's answers at segments of a list, each output in a ballot
-- that was active. No two share a place, and as long as only one ballot was active the places rise
-- as they left. The primary of an earlier ballot may output late what it had not yet output.
pub record LeftInOrder {S C O : Type 0} (rules : Rules S C O) (moments : List (Moment S C O))
    (world : GroupWorld S C O) (list : List C) : Type 0 where
  pub segments : List Segment
  pub left : world.left ≡ flat_map
      (λ segment. outputs (outputs_between rules list segment.first segment.end)) segments
  pub inside : (segment : Segment) → In segment segments →
      (segment.first < segment.end) × (segment.end ≤ length list)
  pub given : (segment : Segment) → In segment segments → WasActive moments segment.ballot
  pub in_order : AreInOrder segments
