-- What the threads of a node do in their whole lives, each with its slot, and which lanes come back.
use Rattle.std.specs.Prelude.{◌≡◌, ℕ, List, [], ◌∷◌, ◌++◌, Option, Some, None}
use Rattle.lists.specs.Lists.{Each}
use Rattle.world_base.specs.declared.node_core.item.Item.{Item}
use Rattle.mailbox.specs.Ends.{LaneView}
use Rattle.run_history.specs.declared.event.RunEvent.{RunEvent}
use Rattle.run_history.specs.Log.{sent_in}
use Rattle.server.specs.node_threads.LaneReports.{EndsBy, SendsOwn, SendsRow}

-- ---- threads

-- a lane that came back from the thread that served by it, and the number by which it got its ports
pub record ServedLaneView : Type 0 where
  pub number : ℕ
  pub lane : LaneView Item

-- the slot of a thread: its lane, if it serves connections, before it begins; and, once it has
-- returned, that lane, and the number of the listener that it saw closed
pub record LaneSlotView : Type 0 where
  pub lane : Option (LaneView Item)
  pub back : Option ServedLaneView
  pub closed : Option ℕ

-- A thread that got a lane served connections by it until it saw this node's listener closed or all
-- ports were used, and put the lane back. A thread without a lane returned with the witness, and put
-- nothing back.
abbrev pub ComesBack : (node : ℕ) → Option (LaneView Item) → (kept back : Option ServedLaneView) →
    Option ℕ → Type 0
ComesBack node None kept back closed = (back ≡ kept) × (closed ≡ Some node)
ComesBack node (Some lane) kept None closed = ⊥
ComesBack node (Some lane) kept (Some back) closed =
    (back.number ≡ lane.lane)
    × SendsRow lane.lane lane.sent back.lane.sent
    × EndsBy node lane.lane closed lane.sent back.lane.sent

-- a slot's thread returned
abbrev pub Returns : (node : ℕ) → (before after : LaneSlotView) → Type 0
Returns node before after =
    (after.lane ≡ None) × ComesBack node before.lane before.back after.back after.closed

-- ---- lanes at the end

-- all that the lane ever sent are the reports of connections at its ports, one after another
abbrev pub HasServed : LaneView Item → Type 0
HasServed lane = SendsRow lane.lane [] lane.sent

-- lanes were appended that sent nothing but reports of their connections
pub record AddsServed (before after : List (LaneView Item)) : Type 0 where
  pub added : List (LaneView Item)
  pub is : after ≡ before ++ added
  pub served : Each HasServed added

-- These lanes are the own lane of the node of this number, and lanes of connections. All that the
-- first ever sent is its own, by what was sent in the run by this log; what the others sent are the
-- reports of their connections.
pub record CameBack (number : ℕ) (log : List RunEvent) (lanes : List (LaneView Item)) : Type 0 where
  pub own : LaneView Item
  pub others : List (LaneView Item)
  pub are : lanes ≡ own ∷ others
  pub sends : SendsOwn (sent_in log) number [] own.sent
  pub served : Each HasServed others
