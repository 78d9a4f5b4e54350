-- ItsLanes.antt: lanes are all lanes of a node exactly if each has the number of the node's inbox,
-- and its index as its number.
use Rattle.std.proofs.Common.{◌≡◌, ℕ, ◌<◌, List, length}
use Rattle.std.specs.Prelude.{slice_index_or}
use Rattle.mailbox.specs.Ends.{LaneView}
use Rattle.world_base.specs.declared.node_core.item.Item.{Item}
use Rattle.node.specs.LockedNode.{AreItsLanes, NodeView}

-- the lane at an index has the number of the inbox, and the index as its number
abbrev pub Placed : ℕ → List (LaneView Item) → ℕ → Type 0
Placed number lanes index =
    (other : LaneView Item)
    → ((slice_index_or lanes index other).inbox ≡ number) × ((slice_index_or lanes index other).lane ≡ index)

pub all_placed : (node : NodeView) (lanes : List (LaneView Item)) → length lanes ≡ node.lanes
    → ((index : ℕ) → index < length lanes → Placed node.number lanes index) → AreItsLanes node lanes
all_placed node lanes all placed = record {
  all = all;
  named = λ index other within. (placed index within other).0;
  placed = λ index other within. (placed index within other).1;
}
