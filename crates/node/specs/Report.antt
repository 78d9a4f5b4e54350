-- What a node's report shows, the space that it needs, and what it says about a lane.
use Rattle.std.specs.Prelude.{◌≡◌, ℕ, ◌≤◌, List, [], ◌++◌, length, vec_capacity}
use Rattle.mailbox.specs.Delivery.{items_of_lane}
use Rattle.mailbox.specs.Ends.{LaneView, max_items}
use Rattle.world_base.specs.declared.node_core.item.Item.{Item}
use Rattle.node.specs.declared.report.ReportSpace.{ReportSpace}

-- what a report shows: the node's number; how many items of each lane were taken; the items that
-- were left, each with its lane; the base of the node's log; how many takings were done at a shut
-- gate
pub record ReportView : Type 0 where
  pub number : ℕ
  pub taken : List ℕ
  pub left : List (ℕ × Item)
  pub base : ℕ
  pub gate_missed : ℕ

-- nothing is left over yet, and there is capacity for what an inbox of this many lanes holds
abbrev pub HasCapacity : ℕ → ReportSpace → Type 0
HasCapacity lanes space =
    (length space.taken.items ≡ lanes)
    × (space.left.items ≡ [])
    × (max_items ≤ vec_capacity space.left)

-- what was taken of a lane followed by what is left over of it is all that it sent, in order
abbrev pub ReportsAll : List (ℕ × Item) → List (ℕ × Item) → LaneView Item → Type 0
ReportsAll taken left lane = items_of_lane lane.lane taken ++ items_of_lane lane.lane left
    ≡ lane.sent
