-- How a run ends: one log by which the master and every node have the states that they have.
use Rattle.std.specs.Prelude.{◌≡◌, ℕ, ◌<◌, ◌+◌, List, map, slice_get, Some}
use mathlib.Core.List.{IsPrefix}
use Rattle.ballot_base.specs.StepOutcome.{master}
use Rattle.ballot_base.specs.declared.config.Config.{Config}
use Rattle.world_base.specs.node_core.Core.{CoreState}
use Rattle.run_history.specs.declared.event.RunEvent.{RunEvent}
use Rattle.run_history.specs.History.{IsHistory}
use Rattle.run_history.specs.Log.{events_by, items_taken, master_in, nodes_in}
use Rattle.run_history.specs.Masters.{MasterView}
use Rattle.run_history.specs.Parties.{NodeView}

-- by the log the node has the state that it has, and has no more events than it knows, so it took
-- just the items that it knows
pub record IsSettled (nodes : ℕ) (config : Config) (log : List RunEvent)
    (node : NodeView) : Type 0 where
  pub state : slice_get (nodes_in nodes config log) node.index ≡ Some node.node.core
  pub no_more : events_by (node.index + 1) log ≡ events_by (node.index + 1) node.log
  pub items : items_taken (node.index + 1) log ≡ items_taken (node.index + 1) node.log

-- by the log the master has the state that it has, and has no more events than it knows
pub record IsMasterSettled (config : Config) (log : List RunEvent)
    (party : MasterView) : Type 0 where
  pub state : master_in config log ≡ party.state
  pub no_more : events_by master log ≡ events_by master party.log

-- the node is at this index, and settled by the log
pub record IsEnded (nodes : ℕ) (config : Config) (log : List RunEvent)
    (index : ℕ) (node : NodeView) : Type 0 where
  pub place : node.index ≡ index
  pub settled : IsSettled nodes config log node

-- the first so many nodes know no more than this log
abbrev pub AllKnown : List RunEvent → List NodeView → ℕ → Type 0
AllKnown log parties count =
    (index : ℕ) (node : NodeView) → index < count → slice_get parties index ≡ Some node →
    IsPrefix node.log log

-- the first so many nodes are in their places, and settled by this log
abbrev pub AllEnded : ℕ → Config → List RunEvent → List NodeView → ℕ → Type 0
AllEnded nodes config log parties count =
    (index : ℕ) (node : NodeView) → index < count → slice_get parties index ≡ Some node →
    IsEnded nodes config log index node

-- the cores of nodes
abbrev pub cores_of : List NodeView → List CoreState
cores_of parties = map (λ (node : NodeView). node.node.core) parties

-- The log is a run of the model from the opening on, at whose end the master and the nodes of the
-- group are just these, with all the events that they have.
pub record IsEnd (nodes : ℕ) (config : Config) (log : List RunEvent)
    (party : MasterView) (parties : List NodeView) : Type 0 where
  pub history : IsHistory nodes config log
  pub master_is : IsMasterSettled config log party
  pub cores : nodes_in nodes config log ≡ cores_of parties
  pub settled : AllEnded nodes config log parties nodes
