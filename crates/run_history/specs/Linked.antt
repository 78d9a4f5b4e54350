-- Which logs are those of a run: of a group all of whose nodes are in this program, or of nodes that
-- are linked to other programs.
use Rattle.std.specs.Prelude.{◌≡◌, ℕ, Bool, true, false, List, [], ◌∷◌, ◌++◌, slice_get, Some}
use Rattle.ballot_base.specs.LawfulConfig.{max_node, max_number}
use Rattle.ballot_base.specs.declared.config.Config.{Config}
use Rattle.ballot_base.specs.declared.message.Effect.{Effect}
use Rattle.ballot_base.specs.declared.message.Message.{Message}
use Rattle.broker_spec.specs.declared.command.Command.{Command}
use Rattle.broker_spec.specs.declared.command.Output.{Output}
use Rattle.agreement.specs.World.{can_open}
use Rattle.world_base.specs.node_core.Core.{CoreState}
use Rattle.world_base.specs.node_core.LossyStep.{RunsOn}
use Rattle.world_base.specs.node_core.PortOutput.{hands_over}
use Rattle.run_history.specs.declared.event.BroughtMessage.{BroughtMessage}
use Rattle.run_history.specs.declared.event.NodeAct.{NodeAct}
use Rattle.run_history.specs.declared.event.NodeAct.TheVariants.{Takes, HandsOver}
use Rattle.run_history.specs.declared.event.NodeEvent.{NodeEvent}
use Rattle.run_history.specs.declared.event.RunEvent.{RunEvent}
use Rattle.run_history.specs.declared.event.RunEvent.TheVariants.{ByNode, ByLink}
use Rattle.run_history.specs.History.{IsHistory}
use Rattle.run_history.specs.Log.{nodes_in, opening_log, sent_in}
use Rattle.run_history.specs.Sending.{ItemWasSent}

-- a node may do this act, be so after it, and give this: it steps on an item, perhaps with losses,
-- which was sent to it; or it hands over the output of a port
abbrev pub NodeMayDo : List (ℕ × Message Command) → ℕ → CoreState → CoreState →
    List (Effect Command Output) → NodeAct → Type 0
NodeMayDo sent node core after given (Takes item) =
    ItemWasSent sent node item × RunsOn item core after given
NodeMayDo sent node core after given (HandsOver port) =
    (after ≡ hands_over port core) × (given ≡ [])

-- the greatest number of a node: where all nodes are in this program, or among linked ones
abbrev pub greatest_in : Bool → ℕ
greatest_in false = max_node
greatest_in true = max_number

-- The log of nodes that are linked to other programs: they open, and then each event is a step of
-- one of them, or a message that a link brings. A node takes only messages that were sent to it by
-- an earlier step, or that a link brought for it.
pub data IsLinkedLog (nodes : ℕ) (config : Config) : List RunEvent → Type 0 where
  opens_linked : can_open max_number nodes config ≡ true →
      IsLinkedLog nodes config (opening_log nodes config true)
  node_does : {log : List RunEvent} → IsLinkedLog nodes config log → (event : NodeEvent)
      (core : CoreState) → slice_get (nodes_in nodes config log) event.node ≡ Some core →
      NodeMayDo (sent_in log) event.node core event.after.core event.given event.act →
      IsLinkedLog nodes config (log ++ ByNode event ∷ [])
  link_brings : {log : List RunEvent} → IsLinkedLog nodes config log → (brought : BroughtMessage) →
      IsLinkedLog nodes config (log ++ ByLink brought ∷ [])

-- the log is that of a run of the model, or of linked nodes
abbrev pub IsRun : Bool → ℕ → Config → List RunEvent → Type 0
IsRun false nodes config log = IsHistory nodes config log
IsRun true nodes config log = IsLinkedLog nodes config log
