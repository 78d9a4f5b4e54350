-- How a node ended whose other nodes and master are in other programs.
use Rattle.std.specs.Prelude.{◌≡◌, ℕ, true, List, [], ◌∷◌}
use mathlib.Core.List.{IsPrefix}
use Rattle.ballot_base.specs.declared.config.Config.{Config}
use Rattle.run_history.specs.declared.event.RunEvent.{RunEvent}
use Rattle.run_history.specs.Linked.{IsRun}
use Rattle.server.specs.Ends.{IsReportIn}
use Rattle.server.specs.declared.linked_run.LinkedRun.{LinkedRun}

-- ballot 1 is that of node 1 alone: it is the first that ever served, and all others are assigned
abbrev pub alone : Config
alone = record { members = 1 ∷ []; primary = 1 }

-- What was served is a run of linked nodes, of which those up to this number opened: each event is a
-- step of one of them, or a message that a link brought. By it the report is of the node of this
-- number.
pub record IsLinkedRun (number : ℕ) (run : LinkedRun) : Type 0 where
  pub linked : IsRun true number alone run.log
  pub report : IsReportIn number alone run.log run.report
  pub named : run.report.number ≡ number

-- the attendant ran with the node of this number and may return this, having seen a prefix of this
-- log
pub record HasAttendedLinks {A Answer : Type 0}
    (attends : A → ℕ → List RunEvent → Answer → Type 0)
    (attendant : A) (number : ℕ) (log : List RunEvent) (answer : Answer) : Type 0 where
  pub seen : List RunEvent
  pub begins : IsPrefix seen log
  pub attended : attends attendant number seen answer
