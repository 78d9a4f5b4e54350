-- Which logs are runs of the model of groups: each event is a step of it.
use Rattle.std.specs.Prelude.{◌≡◌, ℕ, ◌+◌, true, false, List, [], ◌∷◌, ◌++◌, slice_get, Some}
use Rattle.ballot_base.specs.LawfulConfig.{max_node}
use Rattle.ballot_base.specs.StepOutcome.{master}
use Rattle.ballot_base.specs.declared.config.Config.{Config}
use Rattle.ballot_base.specs.declared.message.Effect.{Effect}
use Rattle.broker_spec.specs.declared.command.Command.{Command}
use Rattle.broker_spec.specs.declared.command.Output.{Output}
use Rattle.agreement.specs.MasterState.{MasterState}
use Rattle.agreement.specs.World.{can_open}
use Rattle.world_base.specs.node_core.Core.{CoreState}
use Rattle.headline.specs.node_moves.Moves.{NodeCall}
use Rattle.headline.specs.node_moves.Moves.NodeCall.{takes, hands_out}
use Rattle.headline.specs.node_group.Group.{Group, opening_group}
use Rattle.headline.specs.node_group.Steps.{GroupStep, GroupTrace}
use Rattle.headline.specs.node_group.Steps.GroupStep.{node_acts, node_loses, master_assigns, master_hears, assigns_unheard, answers_unheard}
use Rattle.headline.specs.node_group.Steps.GroupTrace.{opened, then_went}
use Rattle.run_history.specs.declared.event.MasterAct.{MasterAct}
use Rattle.run_history.specs.declared.event.MasterAct.TheVariants.{Assigns, Answers}
use Rattle.run_history.specs.declared.event.NodeAct.{NodeAct}
use Rattle.run_history.specs.declared.event.NodeAct.TheVariants.{Takes, HandsOver}
use Rattle.run_history.specs.declared.event.RunEvent.{RunEvent}
use Rattle.run_history.specs.declared.event.RunEvent.TheVariants.{Opens, ByNode, ByMaster, ByLink}
use Rattle.run_history.specs.Log.{events_by, master_in, nodes_in, opening_log, sent_in}

-- the call of a node that an act is
abbrev pub call_of : NodeAct → NodeCall
call_of (Takes item) = takes item
call_of (HandsOver port) = hands_out port

-- a node at this index does this act, is so after it, and gives this: that is the step of the model
abbrev pub IsNodeStep : ℕ → NodeAct → CoreState → List (Effect Command Output) →
    {group next : Group} → GroupStep group next → Type 0
IsNodeStep index act after given
    (node_acts node core node_call outcome run at is first sent) =
    (node ≡ index) × (node_call ≡ call_of act) × (after ≡ outcome.core)
    × (given ≡ outcome.messages)
IsNodeStep index act after given
    (node_loses node core item outcome kept by at runs sent thinned) =
    (node ≡ index) × (act ≡ Takes item) × (after ≡ outcome.core) × (given ≡ kept)
IsNodeStep index act after given (master_assigns config) = ⊥
IsNodeStep index act after given (master_hears from ballot sent) = ⊥
IsNodeStep index act after given (assigns_unheard config) = ⊥
IsNodeStep index act after given (answers_unheard from ballot sent) = ⊥

-- the master does this act, and its message is sent: that is the step of the model
abbrev pub IsMasterStep : MasterAct → {group next : Group} → GroupStep group next → Type 0
IsMasterStep act (master_assigns config) = act ≡ Assigns config
IsMasterStep act (master_hears from ballot sent) = act ≡ Answers from ballot
IsMasterStep act (assigns_unheard config) = ⊥
IsMasterStep act (answers_unheard from ballot sent) = ⊥
IsMasterStep act (node_acts node core node_call outcome run at is first sent) = ⊥
IsMasterStep act (node_loses node core item outcome kept by at runs sent thinned) = ⊥

-- the event is this step of the model
abbrev pub IsStep : RunEvent → {group next : Group} → GroupStep group next → Type 0
IsStep (ByNode event) step = IsNodeStep event.node event.act event.after.core event.given step
IsStep (ByMaster event) step = IsMasterStep event.act step
IsStep (ByLink event) step = ⊥
IsStep (Opens group) step = ⊥

-- the group has the nodes, the master and the messages that the log leads to
pub record IsReached (nodes : ℕ) (config : Config) (log : List RunEvent)
    (group : Group) : Type 0 where
  pub nodes_are : group.nodes ≡ nodes_in nodes config log
  pub master_is : group.master ≡ master_in config log
  pub sent_are : group.sent ≡ sent_in log

-- the log is the opening of the trace, and then its steps one by one, each of which reaches what
-- the log says
pub data IsLogOf (nodes : ℕ) (config : Config) : List RunEvent →
    (group : Group) → GroupTrace nodes config group → Type 0 where
  opens : (can : can_open max_node nodes config ≡ true) →
      IsLogOf nodes config (opening_log nodes config false)
      (opening_group max_node nodes config) (opened max_node can)
  goes_on : {log : List RunEvent} {group next : Group} {went : GroupTrace nodes config group} →
      IsLogOf nodes config log group went → (event : RunEvent) (step : GroupStep group next) →
      IsStep event step → IsReached nodes config (log ++ event ∷ []) next →
      IsLogOf nodes config (log ++ event ∷ []) next (then_went went step)

-- the log is that of a run of the model
pub record IsHistory (nodes : ℕ) (config : Config) (log : List RunEvent) : Type 0 where
  pub group : Group
  pub went : GroupTrace nodes config group
  pub is : IsLogOf nodes config log group went

-- by the log the node at this index has this state, and did this many events
pub record IsNodeOf (nodes : ℕ) (config : Config) (log : List RunEvent) (node : ℕ)
    (core : CoreState) (count : ℕ) : Type 0 where
  pub has : slice_get (nodes_in nodes config log) node ≡ Some core
  pub counted : events_by (node + 1) log ≡ count

-- by the log the master has this state, and did this many events
pub record IsMasterOf (config : Config) (log : List RunEvent) (state : MasterState)
    (count : ℕ) : Type 0 where
  pub has : master_in config log ≡ state
  pub counted : events_by master log ≡ count
