-- NoneFailedThere.antt: at no node that can be reached is there a connection that failed and is still to be reported to the broker.
use Rattle.std.proofs.Common.{◌≡◌, ℕ, zero, suc, ◌+◌, ◌<◌, Bool, true, false, if◌then◌else◌, List, [], ◌∷◌, Option, Some, None, slice_get, slice_set, refl, ◌∙◌, sym, ap, subst}
use Rattle.std.proofs.lemmas.Option.{none-some}
use Rattle.lists.specs.Lists.{Each}
use Rattle.lists.proofs.OfEach.{each_append}
use Rattle.agreement.specs.MasterState.{AssignRefusal, master_after, refusal}
use Rattle.ballot_base.specs.Losses.{greatest_count}
use Rattle.ballot_base.specs.declared.config.Config.{Config}
use Rattle.world_base.specs.declared.node_core.item.Item.{Item}
use Rattle.world_base.specs.node_core.Core.{CoreState, CountedCore, StepOutcome, opening_core}
use Rattle.world_base.specs.node_core.Losses.{ItemTakesNoMemory}
use Rattle.headline.specs.node_moves.Moves.{NodeCall, done}
use Rattle.headline.specs.node_moves.Moves.NodeCall.{takes, hands_out}
use Rattle.headline.specs.node_group.Group.{Group, opening_cores, with_master}
use Rattle.headline.specs.node_group.Steps.{GroupStep, GroupTrace, after_assign}
use Rattle.headline.specs.node_group.Steps.GroupStep.{node_acts, node_loses, master_assigns as assigns, master_hears as hears_master, assigns_unheard, answers_unheard}
use Rattle.headline.specs.node_group.Steps.GroupTrace.{opened, then_went}
use Rattle.headline.proofs.of_node_group.NamesInGroups.{each_got}
use Rattle.headline.proofs.of_node_group.Placed.{get_mapped}
use Rattle.world_nodes.specs.Nodes.{NodesState}
use Rattle.world_nodes.specs.Quiet.{RestsAt}
use Rattle.world_nodes.specs.RunningNodes.{numbered_node, running, unless_stopped}
use Rattle.world.specs.Theorems.{HasNoneFailed}
use Rattle.world.specs.Trace.{AreReached}
use Rattle.world.proofs.NoneFailed.{handed_none_failed, losing_none_failed, step_none_failed}

-- ---- groups

each_set : (P : CoreState → Type 0) (cores : List CoreState) (n : ℕ) (core : CoreState) → Each P cores → P core → Each P (slice_set cores n core)
each_set P [] n core each p = tt
each_set P (c ∷ cores) zero core each p = (p, each.1)
each_set P (c ∷ cores) (suc n) core each p = (each.0, each_set P cores n core each.1 p)

opening_none : (nodes : ℕ) (config : Config) → Each HasNoneFailed (opening_cores nodes config)
opening_none zero config = tt
opening_none (suc n) config =
    each_append HasNoneFailed (opening_cores n config) (opening_core (n + 1) config ∷ []) (opening_none n config) (refl, tt)

call_none : (node_call : NodeCall) (core : CoreState) → HasNoneFailed core → HasNoneFailed (done node_call core).core
call_none (takes item) core none = step_none_failed item core
call_none (hands_out port) core none = handed_none_failed port core none

assigned_none : (g : Group) (config : Config) (why : Option AssignRefusal) → Each HasNoneFailed g.nodes
    → Each HasNoneFailed (with_master (after_assign g config why) (master_after g.master config why)).nodes
assigned_none g config None none = none
assigned_none g config (Some why) none = none

group_none : (g h : Group) → GroupStep g h → Each HasNoneFailed g.nodes → Each HasNoneFailed h.nodes
group_none g h (node_acts n core node_call outcome run at is first sent) none =
    each_set HasNoneFailed g.nodes n outcome.core none
    (subst (λ (t : StepOutcome). HasNoneFailed t.core) (sym is) (call_none node_call core (each_got HasNoneFailed g.nodes n core none at)))
group_none g h (node_loses n core item outcome kept by at runs sent thinned) none =
    each_set HasNoneFailed g.nodes n outcome.core none (losing_none_failed item core outcome.core outcome.messages runs)
group_none g h (assigns config) none = assigned_none g config (refusal g.master config) none
group_none g h (hears_master from ballot sent) none = none
group_none g h (assigns_unheard config) none = none
group_none g h (answers_unheard from ballot sent) none = none

all_none : (nodes : ℕ) (config : Config) (g : Group) → GroupTrace nodes config g → Each HasNoneFailed g.nodes
all_none nodes config g (opened greatest can) = opening_none nodes config
all_none nodes config h (then_went {group = g} went step) = group_none g h step (all_none nodes config g went)

-- ---- nodes that can be reached

pub reached_none_failed : (nodes : ℕ) (config : Config) (state : NodesState) → AreReached nodes config state
    → (node : ℕ) (core : CountedCore) → numbered_node state.nodes node ≡ Some core → HasNoneFailed core.core
reached_none_failed nodes config state reached zero core at = absurd (none-some core at)
reached_none_failed nodes config state reached (suc index) core at =
    each_got HasNoneFailed reached.group.nodes index core.core (all_none nodes config reached.group reached.went)
    (ap (λ (cores : List CoreState). slice_get cores index) reached.stands.nodes
    ∙ get_mapped (λ (node : CountedCore). node.core) state.nodes index core at)

-- a node that runs is there
there : (found : Option CountedCore) (core : CountedCore) → unless_stopped found ≡ Some core → found ≡ Some core
there None core runs = absurd (none-some core runs)
there (Some node) core runs = by node.core.replica.state.stopped runs
  where
    by : (b : Bool) → (let o : Option CountedCore = if b then None else Some node in o) ≡ Some core → Some node ≡ Some core
    by true none = absurd (none-some core none)
    by false is = is

numbered : (nodes : List CountedCore) (node : ℕ) (core : CountedCore) → running nodes node ≡ Some core → numbered_node nodes node ≡ Some core
numbered nodes zero core runs = absurd (none-some core runs)
numbered nodes (suc index) core runs = there (slice_get nodes index) core runs

pub reached_rest : (nodes : ℕ) (config : Config) (state : NodesState) → AreReached nodes config state
    → (node : ℕ) (item : Item) (core : CountedCore) → running state.nodes node ≡ Some core
    → ItemTakesNoMemory item core.core → core.losses < greatest_count → RestsAt node item state
reached_rest nodes config state reached node item core runs spared low = record {
  core = core;
  runs = runs;
  takes = spared;
  none_failed = reached_none_failed nodes config state reached node core (numbered state.nodes node core runs);
  low = low;
}
