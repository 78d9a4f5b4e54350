-- A node and the items that it took.
use Rattle.std.specs.Prelude.{◌≡◌, ℕ, ◌+◌, ◌-◌, ◌<◌, ◌^◌, Bool, [], List, ◌∷◌, ◌++◌, map, min, slice_get, Some}
use Rattle.lists.specs.Lists.{Each}
use Rattle.mailbox.specs.Ends.{ReceiverView}
use Rattle.broker_spec.specs.declared.command.Command.{Command}
use Rattle.broker_spec.specs.declared.command.Output.{Output}
use Rattle.ballot_base.specs.declared.config.Config.{Config}
use Rattle.ballot_base.specs.declared.message.Effect.{Effect}
use Rattle.world_base.specs.declared.node_core.item.Item.{Item}
use Rattle.world_base.specs.declared.node_connections.port.Port.{Port}
use Rattle.world_base.specs.node_core.Core.{CountedCore, opening_core}
use Rattle.world_base.specs.node_core.PortOutput.{hands_over}
use Rattle.world_base.specs.node_core.Losses.{ItemStepOrLost}
use Rattle.run_history.specs.declared.event.RunEvent.{RunEvent}
use Rattle.run_history.specs.Linked.{IsRun}
use Rattle.run_history.specs.Log.{items_taken, nodes_in}
use Rattle.run_history.specs.Parties.{NodeView, TookItem}
use Rattle.node.specs.HandedCounts.{CountsAreRight}
use Rattle.node.specs.declared.handed_counts.HandedCount.{HandedCount}

-- The fold of `step` over the items that a node took, each with its lane, from its first state on.
-- In between, queued bytes may have been handed over.
pub data Replays (first : CountedCore) : List (ℕ × Item) → CountedCore → Type 0 where
  -- no item was taken yet
  opens : Replays first [] first
  -- one more item is taken
  steps : {history : List (ℕ × Item)} {core : CountedCore}
      (taken : ℕ × Item) (next : CountedCore) (before after : List (Effect Command Output))
      → Replays first history core → ItemStepOrLost core taken.1 next before after
      → Replays first (history ++ taken ∷ []) next
  -- queued bytes of a port are handed over
  hands : {history : List (ℕ × Item)} {core : CountedCore} (port : Port)
      → Replays first history core
      → Replays first history (record core { core = hands_over port core.core })

-- the model of a node: its inbox with all that was taken from it, its core, the prefix of the
-- run's log that it knows, how often an item was asked for, and how many bytes it counts as handed
-- over for its newest ports
pub record NodeStateView : Type 0 where
  pub receiver : ReceiverView Item
  pub node : CountedCore
  pub log : List RunEvent
  pub takings : ℕ
  pub counts : List HandedCount

-- the node as the run has it on record: its inbox has its number
abbrev pub on_record : NodeStateView → NodeView
on_record state = record {
  index = state.receiver.inbox - 1;
  node = state.node;
  log = state.log;
}

-- the items that were taken, without their lanes
abbrev pub items_of : List (ℕ × Item) → List Item
items_of taken = map (λ (one : ℕ × Item). one.1) taken

-- each item was taken from one of the inbox's lanes
abbrev pub AreOfLanes : ReceiverView Item → Type 0
AreOfLanes receiver = Each (λ (one : ℕ × Item). one.0 < receiver.lanes) receiver.taken

-- The log that the node knows is that of a run, by which the node of its number has just this
-- state, took just the items that were taken from its inbox, in order, and handed over as many bytes
-- for each port as it counts for it.
pub record IsOnRecord (linked : Bool) (nodes : ℕ) (config : Config) (state : NodeStateView) :
    Type 0 where
  pub run : IsRun linked nodes config state.log
  pub core : slice_get (nodes_in nodes config state.log) (state.receiver.inbox - 1)
      ≡ Some state.node.core
  pub items : items_taken state.receiver.inbox state.log ≡ items_of state.receiver.taken
  pub handed : CountsAreRight nodes config (state.receiver.inbox - 1) state.log state.counts

-- the number of the next taking, from 1; it saturates at 2^64 - 1
abbrev pub next_taking : ℕ → ℕ
next_taking takings = min (takings + 1) (2 ^ 64 - 1)

-- One item was taken, and the node's core did one step with it. That is the next event of the node
-- in the run; if the item is a message, an earlier event sent it to this node.
pub record TakesOne (old new : NodeStateView)
    (before after : List (Effect Command Output)) : Type 0 where
  pub lane : ℕ
  pub item : Item
  pub taken : new.receiver ≡ record old.receiver { taken = old.receiver.taken ++ (lane, item) ∷ [] }
  pub stepped : ItemStepOrLost old.node item new.node before after
  pub counts : new.counts ≡ old.counts
  pub in_run : TookItem (on_record old) item (on_record new) before after

-- each number names the node that opens under it in this configuration of ballot 1
abbrev pub EachOpensAs : Config → (ℕ → CountedCore) → Type 0
EachOpensAs config first_of =
    (inbox : ℕ) → first_of inbox ≡ record { core = opening_core inbox config; losses = 0 }

-- the core that a number names for which none was chosen
abbrev pub no_core : CountedCore
no_core = record { core = opening_core 0 (record { members = []; primary = 0 }); losses = 0 }
