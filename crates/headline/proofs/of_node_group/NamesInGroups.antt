-- In a group the names of each node's open connections are of the ballot that it leads, between its steps.
use Rattle.std.proofs.Common.{◌≡◌, ℕ, zero, suc, ◌+◌, Bool, true, false, if◌then◌else◌, List, [], ◌∷◌, Option, Some, None, slice_get, slice_set, filter, map, refl, sym, subst}
use Rattle.std.proofs.lemmas.Bool.{both_ways}
use Rattle.std.proofs.lemmas.Option.{same_Some, none-some}
use Rattle.lists.specs.Lists.{Each}
use Rattle.lists.proofs.OfEach.{each_append}
use Rattle.ballot_base.specs.declared.config.Config.{Config}
use Rattle.agreement.specs.MasterState.{AssignRefusal, master_after, refusal}
use Rattle.broker_spec.specs.Connection.{ConnectionName}
use Rattle.world_base.specs.declared.node_connections.connection.Connection.{Connection}
use Rattle.world_base.specs.node_connections.Connections.{is_listed, is_closed}
use Rattle.world_base.specs.node_connections.ConnectionChanges.{closed_connection}
use Rattle.world_base.specs.declared.node_core.item.Item.{Item}
use Rattle.world_base.specs.node_core.Core.{CoreState, StepOutcome, opening_core, serves}
use Rattle.world_base.specs.node_core.LossyStep.{RunsOn}
use Rattle.world_base.specs.node_core.Step.{acts_on, settled}
use Rattle.headline.specs.node_moves.Closed.{listed_named}
use Rattle.headline.specs.node_moves.Ends.{IsOrderly}
use Rattle.headline.specs.node_moves.BallotNames.{AreOfTheBallot}
use Rattle.headline.specs.node_moves.LossyNames.{AreWhereItServes}
use Rattle.headline.specs.node_moves.Moves.{NodeCall, done}
use Rattle.headline.specs.node_moves.Moves.NodeCall.{takes, hands_out}
use Rattle.headline.specs.node_moves.Moves.NodeMove.{hands}
use Rattle.headline.proofs.of_node_moves.Kept.{named}
use Rattle.headline.proofs.of_node_moves.NamesKeepTheirBallot.{names_keep_their_ballot}
use Rattle.headline.proofs.of_node_moves.ProposesInOrder.{opening_orderly}
use Rattle.headline.proofs.of_node_moves.Shut.{all}
use Rattle.headline.proofs.of_node_moves.Views.{each_filtered, found_each, view}
use Rattle.headline.specs.node_group.Ballots.{IsInItsBallot, PutsInTheBallotOfTheName}
use Rattle.headline.specs.node_group.Group.{Group, opening_cores, with_master}
use Rattle.headline.specs.node_group.Steps.{GroupStep, GroupTrace, all_proposed, after_assign, put_in_step}
use Rattle.headline.specs.node_group.Steps.GroupStep.{node_acts, node_loses, master_assigns as assigns, master_hears as hears_master, assigns_unheard, answers_unheard}
use Rattle.headline.specs.node_group.Steps.GroupTrace.{opened, then_went}
use Rattle.headline.proofs.of_node_group.LosingNone.{first_still, losing_none, same_put}
use Rattle.headline.proofs.of_node_group.PutsInBallot.{runs_well}

-- ---- the end of a step

all_over : (cs : List Connection) → Each (λ (c : Connection). is_closed c.stage ≡ true) (map closed_connection cs)
all_over [] = tt
all_over (c ∷ cs) = (refl, all_over cs)

-- what is open after the settling is so if the node serves
settled_serves : (x : ConnectionName) (core : CoreState) (d : Connection) → listed_named x (settled core) ≡ Some d → is_closed d.stage ≡ false
    → serves (settled core) ≡ true
unfolding settled
settled_serves x core d e lives = by (serves core) refl e
  where
    by : (b : Bool) → serves core ≡ b → view all (named x) (filter is_listed (if b then core.connections else map closed_connection core.connections)) ≡ Some d
        → serves core ≡ true
    by true leads f = leads
    by false none f =
        absurd (both_ways (is_closed d.stage) lives
        (found_each (λ (c : Connection). is_closed c.stage ≡ true) (named x) (filter is_listed (map closed_connection core.connections)) d
        (each_filtered (λ (c : Connection). is_closed c.stage ≡ true) is_listed (map closed_connection core.connections) (all_over core.connections)) f))

settled_names : (core : CoreState) → AreWhereItServes (settled core) → AreOfTheBallot (settled core)
settled_names core of =
    record { each = λ x d e lives. let leads = settled_serves x core d e lives in ((of leads).each x d e lives) }

-- ---- nodes

pub record IsWell (core : CoreState) : Type 0 where
  pub orderly : IsOrderly core
  pub names : AreOfTheBallot core

node_call_ends : (node_call : NodeCall) (core : CoreState) → IsWell core → AreWhereItServes (done node_call core).core → AreOfTheBallot (done node_call core).core
node_call_ends (takes item) core well of = settled_names (acts_on item core).core of
node_call_ends (hands_out port) core well of = names_keep_their_ballot.moves core (done (hands_out port) core) (hands port) well.orderly refl well.names

well_after : (node_call : NodeCall) (core : CoreState) (outcome : StepOutcome) → outcome ≡ done node_call core → IsWell core → IsOrderly outcome.core → AreWhereItServes outcome.core → IsWell outcome.core
well_after node_call core outcome is well orderly of =
    record {
      orderly = orderly;
      names = subst (λ (t : StepOutcome). AreOfTheBallot t.core) (sym is) (node_call_ends node_call core well (subst (λ (t : StepOutcome). AreWhereItServes t.core) is of));
    }

-- a step with losses ends in the same way
lost_well : (item : Item) (core : CoreState) (outcome : StepOutcome) → RunsOn item core outcome.core outcome.messages → IsOrderly outcome.core → AreWhereItServes outcome.core → IsWell outcome.core
lost_well item core outcome runs orderly of =
    record {
      orderly = orderly;
      names = subst (λ (c : CoreState). AreOfTheBallot c) (sym runs.settles) (settled_names runs.account.core (subst (λ (c : CoreState). AreWhereItServes c) runs.settles of));
    }

-- ---- groups

pub each_got : (P : CoreState → Type 0) (cores : List CoreState) (n : ℕ) (core : CoreState) → Each P cores → slice_get cores n ≡ Some core → P core
each_got P [] n core each e = absurd (none-some core e)
each_got P (c ∷ cores) zero core each e = subst P (same_Some c core e) each.0
each_got P (c ∷ cores) (suc n) core each e = each_got P cores n core each.1 e

each_set : (P : CoreState → Type 0) (cores : List CoreState) (n : ℕ) (core : CoreState) → Each P cores → P core → Each P (slice_set cores n core)
each_set P [] n core each p = tt
each_set P (c ∷ cores) zero core each p = (p, each.1)
each_set P (c ∷ cores) (suc n) core each p = (each.0, each_set P cores n core each.1 p)

opening_well : (nodes : ℕ) (config : Config) → Each IsWell (opening_cores nodes config)
opening_well zero config = tt
opening_well (suc n) config =
    each_append IsWell (opening_cores n config) (opening_core (n + 1) config ∷ []) (opening_well n config)
    (record { orderly = opening_orderly (n + 1) config; names = names_keep_their_ballot.opens (n + 1) config }, tt)

-- all nodes are well, and what was put was put in its ballot
record WentWell {g h : Group} (step : GroupStep g h) : Type 0 where
  pub nodes : Each IsWell h.nodes
  pub puts : Each IsInItsBallot (put_in_step step)

assigned_well : (g : Group) (config : Config) (why : Option AssignRefusal) → Each IsWell g.nodes
    → Each IsWell (with_master (after_assign g config why) (master_after g.master config why)).nodes
assigned_well g config None well = well
assigned_well g config (Some why) well = well

steps_well : (g h : Group) (step : GroupStep g h) → Each IsWell g.nodes → WentWell step
steps_well g h (node_acts n core node_call outcome run at is first sent) well =
    let mine = each_got IsWell g.nodes n core well at in
    let r = runs_well (losing_none run) (first_still run first) mine.orderly mine.names in
    record {
      nodes = each_set IsWell g.nodes n outcome.core well (well_after node_call core outcome is mine r.orderly r.names);
      puts = subst (Each IsInItsBallot) (same_put run) r.puts;
    }
steps_well g h (node_loses n core item outcome kept by at runs sent thinned) well =
    let mine = each_got IsWell g.nodes n core well at in
    let r = runs_well by.run by.first mine.orderly mine.names in
    record { nodes = each_set IsWell g.nodes n outcome.core well (lost_well item core outcome runs r.orderly r.names); puts = r.puts }
steps_well g h (assigns config) well = record { nodes = assigned_well g config (refusal g.master config) well; puts = tt }
steps_well g h (hears_master from ballot sent) well = record { nodes = well; puts = tt }
steps_well g h (assigns_unheard config) well = record { nodes = well; puts = tt }
steps_well g h (answers_unheard from ballot sent) well = record { nodes = well; puts = tt }

pub all_well : (nodes : ℕ) (config : Config) (g : Group) (went : GroupTrace nodes config g) → Each IsWell g.nodes × Each IsInItsBallot (all_proposed went)
all_well nodes config g (opened greatest can) = (opening_well nodes config, tt)
all_well nodes config h (then_went {group = g} went step) =
    let before = all_well nodes config g went in
    let now = steps_well g h step before.0 in
    (now.nodes, each_append IsInItsBallot (all_proposed went) (put_in_step step) before.1 now.puts)

pub puts_in_the_ballot_of_the_name : PutsInTheBallotOfTheName
puts_in_the_ballot_of_the_name nodes config g went = (all_well nodes config g went).1
