-- A node under a lock: its takings and its end.
use Rattle.std.specs.Prelude.{◌≡◌, ℕ, ◌+◌, ◌<◌, List, Option, Bool, length, slice_index, slice_index_or, All, EachIndex, IfSome}
use Rattle.lists.specs.Lists.{Each}
use Rattle.mailbox.specs.Delivery.{items_of_lane}
use Rattle.mailbox.specs.Ends.{LaneView}
use Rattle.world_base.specs.declared.node_core.item.Item.{Item}
use Rattle.world_base.specs.node_core.Core.{CountedCore}
use Rattle.run_history.specs.Log.{items_taken}
use Rattle.run_history.specs.Parties.{NodeView as RecordView}
use Rattle.node.specs.Report.{ReportsAll, ReportView}
use Rattle.node.specs.State.{Replays, NodeStateView, items_of, next_taking}

-- what a node shows outside its lock: its number, how many lanes its inbox has, and whether a gate
-- is asked before each taking
pub record NodeView : Type 0 where
  pub number : ℕ
  pub lanes : ℕ
  pub is_gated : Bool

-- a permit to take up to this many items; with a gate, the number of the taking, and whether the
-- gate opened for it
pub record Permit : Type 0 where
  pub taking : Option ℕ
  pub most : ℕ
  pub is_open : Bool

-- the taking that a gate was asked for is the node's next
abbrev pub IsNext : Permit → NodeStateView → Type 0
IsNext permit seen = IfSome permit.taking (λ taking. taking ≡ next_taking seen.takings)

-- a gate was asked whether this node may do this taking, and answered this
pub record WasAsked {G : Type 0}
    (answers : G → ℕ → ℕ → Bool → Type 0) (node taking : ℕ) (answer : Bool)
    : Type 0 where
  pub gate : G
  pub answered : answers gate node taking answer

-- a gate was told that this node has done this taking
pub record WasInformed {G : Type 0} (hears : G → ℕ → ℕ → Type 0) (node taking : ℕ) : Type 0 where
  pub gate : G
  pub heard : hears gate node taking

-- these are all lanes of a node's inbox, in the order of their numbers
pub record AreItsLanes (node : NodeView) (lanes : List (LaneView Item)) : Type 0 where
  pub all : length lanes ≡ node.lanes
  pub named : (index : ℕ) (other : LaneView Item) → index < length lanes →
      (slice_index_or lanes index other).inbox ≡ node.number
  pub placed : (index : ℕ) (other : LaneView Item) → index < length lanes →
      (slice_index_or lanes index other).lane ≡ index

-- The report is of the node of this number, as it ended, which was the replay of what it took, from
-- this first state on; by the log that it knows it took just this. Lane by lane, what it took
-- followed by what is left over is all that was sent, in order; and nothing was taken from other
-- lanes. The report has the node's number, the count of items taken of each lane, and the base of
-- the node's log.
pub record ReportsOn (first : CountedCore) (number : ℕ) (lanes : List (LaneView Item))
    (report : ReportView) (ended : RecordView) : Type 0 where
  pub taken : List (ℕ × Item)
  pub replays : Replays first taken ended.node
  pub named : ended.index + 1 ≡ number
  pub of : report.number ≡ number
  pub items : items_taken number ended.log ≡ items_of taken
  pub whole : All (ReportsAll taken report.left) lanes
  pub below : Each (λ (one : ℕ × Item). one.0 < length lanes) taken
  pub each : length report.taken ≡ length lanes
  pub counted : EachIndex report.taken (λ lane.
      slice_index report.taken lane ≡ length (items_of_lane lane taken))
  pub base : report.base ≡ ended.node.core.replica.state.log.base
