-- How serving ended: one run of the model, and what each node reports of it.
use Rattle.std.specs.Prelude.{◌≡◌, ℕ, ◌+◌, ◌<◌, false, List, All, IsPermutation, map, slice_get, Some}
use Rattle.std.specs.List.Sorted.{IsNonDecreasingBy}
use mathlib.Core.List.{IsPrefix}
use Rattle.lists.specs.Lists.{has_id}
use Rattle.ballot_base.specs.LawfulConfig.{max_node}
use Rattle.ballot_base.specs.declared.config.Config.{Config}
use Rattle.run_history.specs.declared.event.RunEvent.{RunEvent}
use Rattle.run_history.specs.History.{IsHistory}
use Rattle.run_history.specs.Log.{events_by, nodes_in, sent_in}
use Rattle.world_base.specs.node_core.Core.{CoreState}
use Rattle.server.specs.Ended.{IsReportOf}
use Rattle.server.specs.declared.node_threads.served_node.NodeReport.{NodeReport}
use Rattle.server.specs.declared.served_run.ServedRun.{ServedRun}

-- by the log of a run of so many nodes that opened in this configuration, the report is of the node
-- of its number
pub record IsReportIn (nodes : ℕ) (config : Config) (log : List RunEvent)
    (report : NodeReport) : Type 0 where
  pub index : ℕ
  pub named : index + 1 ≡ report.number
  pub ended : CoreState
  pub at_end : slice_get (nodes_in nodes config log) index ≡ Some ended
  pub is : IsReportOf (sent_in log) log ended report

-- What was served is one run of the model of groups, which opened in this configuration. The nodes
-- of these numbers each have a report of it, in rising order, and the other nodes did nothing.
pub record IsServedRun (config : Config) (numbers : List ℕ) (run : ServedRun) : Type 0 where
  pub history : IsHistory max_node config run.log
  pub reports : All (IsReportIn max_node config run.log) run.reports.items
  pub served : IsPermutation numbers
      (map (λ (report : NodeReport). report.number) run.reports.items)
  pub rising : IsNonDecreasingBy (λ (report : NodeReport). report.number) run.reports.items
  pub others : (index : ℕ) → index < max_node → has_id (index + 1) numbers ≡ false →
      events_by (index + 1) run.log ≡ 0

-- the attendant ran with the nodes of these numbers and may return this, having seen a prefix of this
-- log
pub record HasAttended {A Answer : Type 0} (attends : A → List ℕ → List RunEvent → Answer → Type 0)
    (attendant : A) (numbers : List ℕ) (log : List RunEvent) (answer : Answer) : Type 0 where
  pub seen : List RunEvent
  pub begins : IsPrefix seen log
  pub attended : attends attendant numbers seen answer
