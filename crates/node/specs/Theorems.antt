-- Which bytes count against the intake budget, when logs are cut, and how what a node hands over adds
-- up in the run.
use Rattle.std.specs.Prelude.{◌≡◌, ℕ, ◌+◌, ◌<◌, ◌≤◌, ◌==◌, if◌then◌else◌, List, [], ◌++◌, Some, slice_get, true}
use Rattle.ballot_base.specs.LawfulConfig.{max_node}
use Rattle.ballot_base.specs.declared.config.Config.{Config}
use Rattle.ballot_base.specs.declared.message.Effect.{Effect}
use Rattle.broker_spec.specs.declared.command.Command.{Command}
use Rattle.broker_spec.specs.declared.command.Output.{Output}
use Rattle.world_base.specs.declared.node_connections.port.Port.{Port}
use Rattle.world_base.specs.declared.node_core.item.Item.{Item}
use Rattle.world_base.specs.node_connections.PendingOutput.{pending_bytes}
use Rattle.world_base.specs.node_core.PortOutput.{listed_at}
use Rattle.run_history.specs.Log.{nodes_in}
use Rattle.run_history.specs.Parties.{HandedOver, NodeView, TookItem}
use Rattle.node.specs.OpenBytes.{Counts, Taken, bytes_behind, committed_of}
use Rattle.node.specs.Intake.{IntakeView}
use Rattle.node.specs.CutTimes.{cuts_after}
use Rattle.node.specs.HandedBytes.{handed_at}

-- The count includes every byte that the node took and that may be in a place which is not agreed.
abbrev pub OpenBytesAreCounted : Type 0
OpenBytesAreCounted =
    (all : List Taken) (intake : IntakeView) → Counts all intake →
    bytes_behind (committed_of intake.status) all ≤ intake.earlier + intake.later

-- No two nodes, whose numbers are at most `max_node`, cut their logs after the same tick.
abbrev pub CutsComeApart : Type 0
CutsComeApart =
    (node other ticks : ℕ) → node ≤ max_node → other ≤ max_node →
    cuts_after node ticks ≡ true → cuts_after other ticks ≡ true → node ≡ other

-- a cut of a node fewer than 50 ticks after this many; the number 50 is what the theorem promises,
-- so it stands apart from the constant of the code, which `cuts_after` uses
pub record CutFollows (node ticks : ℕ) : Type 0 where
  pub more : ℕ
  pub soon : more < 50
  pub cuts : cuts_after node (ticks + more) ≡ true

-- Among any 50 ticks in a row, a node's log is cut after one.
abbrev pub CutsComeOften : Type 0
CutsComeOften = (node ticks : ℕ) → CutFollows node ticks

-- What a node hands over for a port is, by the run, added to all that it had handed over for that
-- port, and to nothing of another port.
abbrev pub HandOversAddUp : Type 0
HandOversAddUp =
    (nodes : ℕ) (config : Config) (old new : NodeView) (port other : Port)
    → slice_get (nodes_in nodes config old.log) old.index ≡ Some old.node.core
    → HandedOver old port new
    → handed_at nodes config old.index other new.log
    ≡ handed_at nodes config old.index other old.log
    ++ (if port.0 == other.0 then pending_bytes (listed_at port old.node.core) else [])

-- By a step on an item a node hands over nothing.
abbrev pub StepsHandOverNothing : Type 0
StepsHandOverNothing =
    (nodes : ℕ) (config : Config) (old new : NodeView) (item : Item) (port : Port)
    (before after : List (Effect Command Output))
    → TookItem old item new before after
    → handed_at nodes config old.index port new.log
    ≡ handed_at nodes config old.index port old.log
