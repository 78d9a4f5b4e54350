-- How a node ended, and what its report says of it.
use Rattle.std.specs.Prelude.{◌≡◌, ℕ, ◌+◌, ◌<◌, List, [], ◌++◌, EachIndex, length, slice_index}
use Rattle.ballot_base.specs.declared.message.Message.{Message}
use Rattle.broker_spec.specs.declared.command.Command.{Command}
use Rattle.lists.specs.Lists.{Each}
use Rattle.mailbox.specs.Delivery.{items_of_lane}
use Rattle.node.specs.State.{items_of}
use Rattle.run_history.specs.declared.event.RunEvent.{RunEvent}
use Rattle.run_history.specs.Log.{items_taken, sent_in}
use Rattle.run_history.specs.Parties.{NodeView}
use Rattle.world_base.specs.declared.node_core.item.Item.{Item}
use Rattle.world_base.specs.node_core.Core.{CoreState}
use Rattle.server.specs.declared.node_threads.lane_slots.TheConstants.{LANES}
use Rattle.server.specs.declared.node_threads.served_node.NodeReport.{NodeReport}
use Rattle.server.specs.node_threads.LaneReports.{SendsOwn, SendsRow}

-- what came by a lane: the items that were taken, and those that were left
abbrev pub came_by : ℕ → (taken left : List (ℕ × Item)) → List Item
came_by lane taken left = items_of_lane lane taken ++ items_of_lane lane left

-- The report is of the node of its number, which ended in this state by this log: each item that it
-- took came by one of its 62 lanes, and the report counts those of each lane. By each lane of a
-- connection came, whole and in order, the reports of its connections, one after another; by the
-- first lane ticks, cuts, orders, and messages that were sent to the node, which are among these.
-- The report has the base of the node's own log.
pub record IsReportOf (messages : List (ℕ × Message Command)) (log : List RunEvent)
    (ended : CoreState) (report : NodeReport) : Type 0 where
  pub of : report.report.number ≡ report.number
  pub taken : List (ℕ × Item)
  pub items : items_taken report.number log ≡ items_of taken
  pub by_lanes : Each (λ (one : ℕ × Item). one.0 < LANES) taken
  pub lanes : length report.report.taken ≡ LANES
  pub counted : EachIndex report.report.taken (λ lane.
      slice_index report.report.taken lane ≡ length (items_of_lane lane taken))
  pub connections : (lane : ℕ) → 0 < lane → lane < LANES →
      SendsRow lane [] (came_by lane taken report.report.left)
  pub own : SendsOwn messages report.number [] (came_by 0 taken report.report.left)
  pub base : report.report.base ≡ ended.replica.state.log.base

-- a node that ended, as the run has it on record, with its report, and a prefix of the run's log by
-- which the messages that its first lane brought had been sent
pub record EndedView : Type 0 where
  pub report : NodeReport
  pub node : NodeView
  pub log : List RunEvent

-- by what the node knows of the run, the report is of it
pub record IsTold (one : EndedView) : Type 0 where
  pub named : one.node.index + 1 ≡ one.report.number
  pub is : IsReportOf (sent_in one.log) one.node.log one.node.node.core one.report
