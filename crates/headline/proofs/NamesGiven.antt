-- Each name that a node of a group gives is one that a connection may have.
use Rattle.std.proofs.Common.{◌≡◌, Bool, true, false, not, ◌&&◌, if◌then◌else◌, ℕ, List, [], ◌∷◌, ◌++◌, length, refl, sym, subst}
use Rattle.std.specs.List.{list_any}
use Rattle.ballot_base.specs.declared.config.Config.{Config}
use Rattle.ballot_base.specs.declared.message.Effect.{Effect}
use Rattle.broker_spec.specs.declared.command.Command.{Command}
use Rattle.broker_spec.specs.declared.command.Output.{Output}
use Rattle.broker_spec.specs.Connection.{ConnectionName, IsConnectionName, is_connection_name}
use Rattle.broker_spec.proofs.ConnectionNames.{same_name}
use Rattle.lists.specs.Lists.{Each, In}
use Rattle.lists.specs.Lists.In.{here, there}
use Rattle.lists.proofs.OfEach.{each_append, each_then}
use Rattle.agreement.specs.MasterState.{refusal}
use Rattle.headline.proofs.of_packet_world.Lists.{each_set}
use Rattle.world_base.specs.declared.node_connections.connection.Connection.{Connection}
use Rattle.world_base.specs.declared.node_core.item.Item.{Item}
use Rattle.world_base.specs.declared.node_core.item.Item.TheVariants.{Peer, Tick, Opened, Bytes, Ended, Expel, Cut, Crash}
use Rattle.world_base.specs.declared.node_connections.port.Port.{Port}
use Rattle.world_base.specs.node_connections.Connections.{fresh, is_at}
use Rattle.world_base.specs.node_core.Core.{CoreState, StepOutcome, serves}
use Rattle.world_base.specs.node_core.LossyStep.{RunsOn}
use Rattle.world_base.specs.node_core.Step.{acts_on, next_name, with_next_connection, does_item}
use Rattle.headline.specs.node_moves.Moves.{NodeCall, done}
use Rattle.headline.specs.node_moves.Moves.NodeCall.{takes, hands_out}
use Rattle.headline.proofs.of_node_moves.EachKept.{IsKept, each_repeated, each_settled}
use Rattle.headline.proofs.of_node_moves.Kept.{named, put_out_name}
use Rattle.headline.proofs.of_node_moves.Views.{found_each, found_passes}
use Rattle.headline.specs.node_group.Group.{Group, opening_cores}
use Rattle.headline.specs.node_group.Steps.{GroupStep, GroupTrace, groups_on_trace}
use Rattle.headline.specs.node_group.Steps.GroupStep.{node_acts, node_loses, master_assigns, master_hears, assigns_unheard, answers_unheard}
use Rattle.headline.specs.node_group.Steps.GroupTrace.{opened, then_went}
use Rattle.headline.proofs.of_node_group.NamesInGroups.{each_got}
use Rattle.headline.proofs.of_node_group.CarriedInOrder.{assigned_nodes, no_connections}
use Rattle.headline.specs.byte_world.Apart.{HasName}
use Rattle.headline.proofs.of_byte_world.PortsKept.{IsLater, each_done}
use Rattle.headline.proofs.of_byte_world.PortsLosing.{each_lost}

abbrev IsNamed : Connection → Type 0
IsNamed c = IsConnectionName c.name

abbrev AreNamed : CoreState → Type 0
AreNamed core = Each IsNamed core.connections

later_named : (c d : Connection) → IsLater c d → IsNamed c → IsNamed d
later_named c d later fits = subst IsConnectionName (sym later.name) fits

kept_named : IsKept IsNamed
kept_named = record { shut = λ c fits. fits; put = λ bytes c fits. subst IsConnectionName (sym (put_out_name bytes c)) fits }

-- ---- a node

opens_named : (port : Port) (core : CoreState) → AreNamed core → AreNamed (with_next_connection port core)
unfolding with_next_connection
opens_named port core all = by (serves core && not (list_any (is_at port) core.connections)) (is_connection_name (next_name core)) refl
  where
    by : (a b : Bool) → is_connection_name (next_name core) ≡ b
        → AreNamed (let k : CoreState = if a && b then record core { last_name = next_name core; connections = core.connections ++ fresh port (next_name core) ∷ [] } else core in k)
    by true true fits = each_append IsNamed core.connections (fresh port (next_name core) ∷ []) all (fits, tt)
    by true false other = all
    by false b other = all

done_named : (node_call : NodeCall) (core : CoreState) → AreNamed core → AreNamed (done node_call core).core
done_named (takes (Opened port now)) core all =
    each_settled IsNamed kept_named.shut (acts_on (Opened port now) core).core
    (each_repeated IsNamed kept_named (length (does_item (Opened port now) core).core.connections) (does_item (Opened port now) core).core (opens_named port core all))
done_named (takes (Peer message)) core all = each_done IsNamed later_named (takes (Peer message)) core tt all
done_named (takes (Tick now)) core all = each_done IsNamed later_named (takes (Tick now)) core tt all
done_named (takes (Bytes port piece now)) core all = each_done IsNamed later_named (takes (Bytes port piece now)) core tt all
done_named (takes (Ended port)) core all = each_done IsNamed later_named (takes (Ended port)) core tt all
done_named (takes (Expel client)) core all = each_done IsNamed later_named (takes (Expel client)) core tt all
done_named (takes Cut) core all = each_done IsNamed later_named (takes Cut) core tt all
done_named (takes Crash) core all = each_done IsNamed later_named (takes Crash) core tt all
done_named (hands_out port) core all = each_done IsNamed later_named (hands_out port) core tt all

-- where something is lost
lost_named : (item : Item) (core new : CoreState) (messages : List (Effect Command Output)) → RunsOn item core new messages → AreNamed core → AreNamed new
lost_named (Opened port now) core new messages runs all = each_lost IsNamed later_named (Opened port now) core new messages (opens_named port core) runs all
lost_named (Peer message) core new messages runs all = each_lost IsNamed later_named (Peer message) core new messages tt runs all
lost_named (Tick now) core new messages runs all = each_lost IsNamed later_named (Tick now) core new messages tt runs all
lost_named (Bytes port piece now) core new messages runs all = each_lost IsNamed later_named (Bytes port piece now) core new messages tt runs all
lost_named (Ended port) core new messages runs all = each_lost IsNamed later_named (Ended port) core new messages tt runs all
lost_named (Expel client) core new messages runs all = each_lost IsNamed later_named (Expel client) core new messages tt runs all
lost_named Cut core new messages runs all = each_lost IsNamed later_named Cut core new messages tt runs all
lost_named Crash core new messages runs all = each_lost IsNamed later_named Crash core new messages tt runs all

-- ---- a group

step_named : (g h : Group) → GroupStep g h → Each AreNamed g.nodes → Each AreNamed h.nodes
step_named g h (node_acts n core node_call outcome run at is first sent) all =
    each_set AreNamed g.nodes n outcome.core all (subst (λ (t : StepOutcome). AreNamed t.core) (sym is) (done_named node_call core (each_got AreNamed g.nodes n core all at)))
step_named g h (node_loses n core item outcome kept by at runs sent thinned) all =
    each_set AreNamed g.nodes n outcome.core all (lost_named item core outcome.core outcome.messages runs (each_got AreNamed g.nodes n core all at))
step_named g h (master_assigns wanted) all = subst (Each AreNamed) (sym (assigned_nodes g wanted (refusal g.master wanted))) all
step_named g h (master_hears from ballot sent) all = all
step_named g h (assigns_unheard wanted) all = all
step_named g h (answers_unheard from ballot sent) all = all

all_named : {nodes : ℕ} {config : Config} (g : Group) → GroupTrace nodes config g → Each AreNamed g.nodes
all_named {nodes = nodes} {config = config} g (opened greatest can) =
    each_then (λ (core : CoreState). core.connections ≡ []) AreNamed (opening_cores nodes config) (λ core none. subst (Each IsNamed) (sym none) tt) (no_connections nodes config)
all_named h (then_went {group = g} went step) = step_named g h step (all_named g went)

name_fits : (e : Group) (x : ConnectionName) (n : ℕ) → HasName x e n → Each AreNamed e.nodes → IsConnectionName x
name_fits e x n has all =
    subst IsConnectionName (same_name has.connection.name x (found_passes (named x) has.core.connections has.connection has.listed))
    (found_each IsNamed (named x) has.core.connections has.connection (each_got AreNamed e.nodes n has.core all has.stands) has.listed)

-- a name that a node had at any time
pub names_fit : {nodes : ℕ} {config : Config} {g : Group} (went : GroupTrace nodes config g) (x : ConnectionName) (e : Group) (n : ℕ) → In e (groups_on_trace went) → HasName x e n → IsConnectionName x
names_fit {g = g} (opened greatest can) x e n here has = name_fits g x n has (all_named g (opened greatest can))
names_fit (opened greatest can) x e n (there i) has = elim i [ ]
names_fit {g = h} (then_went went step) x e n here has = name_fits h x n has (all_named h (then_went went step))
names_fit (then_went went step) x e n (there i) has = names_fit went x e n i has
