-- An event that may be added is a step of the model, so the log with it is that of a run.
use Rattle.std.proofs.Common.{◌≡◌, ℕ, Bool, true, false, List, [], ◌∷◌, ◌++◌, Some, refl, ap, sym, ◌∙◌, subst, true≢false}
use Rattle.std.specs.Prelude.{Option, slice_get, slice_set}
use Rattle.ballot_base.specs.LawfulConfig.{max_node}
use Rattle.ballot_base.proofs.ThinnedEffects.{Thinned-same}
use Rattle.ballot_base.specs.StepOutcome.{master}
use Rattle.ballot_base.specs.declared.config.Config.{Config}
use Rattle.ballot_base.specs.declared.message.Effect.{Effect}
use Rattle.ballot_base.specs.declared.message.Message.{Message}
use Rattle.broker_spec.specs.declared.command.Command.{Command}
use Rattle.broker_spec.specs.declared.command.Output.{Output}
use Rattle.agreement.specs.MasterState.{AssignRefusal, MasterState, master_after, opening_master}
use Rattle.agreement.specs.cut_logs.Masters.{MasterOutcome, activated, assigned}
use Rattle.agreement.specs.cut_logs.World.{messages}
use Rattle.world_base.specs.declared.node_core.item.Item.{Item}
use Rattle.world_base.specs.declared.node_core.item.Item.TheVariants.{Peer, Tick, Opened, Bytes, Ended, Expel, Cut, Crash}
use Rattle.world_base.specs.node_core.Core.{CoreState, StepOutcome}
use Rattle.headline.proofs.of_node_moves.LossesAreMoves.{losses_are_moves}
use Rattle.headline.specs.node_moves.ItemRuns.{IsRunOn, heard_with}
use Rattle.headline.specs.node_moves.Moves.{MoveTrace, done}
use Rattle.headline.specs.node_moves.Moves.NodeCall.{hands_out}
use Rattle.headline.specs.node_moves.Moves.NodeMove.{hands}
use Rattle.headline.specs.node_moves.Moves.MoveTrace.{rests, goes_on as moves_on}
use Rattle.headline.specs.node_group.Group.{Group, opening_cores}
use Rattle.headline.specs.node_group.Losses.{WereSent}
use Rattle.headline.specs.node_group.Steps.{GroupStep, GroupTrace, after_assign}
use Rattle.headline.specs.node_group.Steps.GroupStep.{node_acts, node_loses, master_assigns, master_hears}
use Rattle.headline.specs.node_group.Steps.GroupTrace.{then_went}
use Rattle.run_history.specs.declared.event.BroughtMessage.{BroughtMessage}
use Rattle.run_history.specs.declared.event.MasterAct.{MasterAct}
use Rattle.run_history.specs.declared.event.MasterAct.TheVariants.{Assigns, Answers}
use Rattle.run_history.specs.declared.event.MasterEvent.{MasterEvent}
use Rattle.run_history.specs.declared.event.NodeAct.{NodeAct}
use Rattle.run_history.specs.declared.event.NodeAct.TheVariants.{Takes, HandsOver}
use Rattle.run_history.specs.declared.event.NodeEvent.{NodeEvent}
use Rattle.run_history.specs.declared.event.RunEvent.{RunEvent}
use Rattle.run_history.specs.declared.event.RunEvent.TheVariants.{ByNode, ByMaster, ByLink}
use Rattle.run_history.specs.History.{IsHistory, IsLogOf, IsMasterStep, IsNodeStep, IsReached}
use Rattle.run_history.specs.History.IsLogOf.{opens, goes_on}
use Rattle.run_history.specs.Log.{master_in, nodes_in, sent_in}
use Rattle.run_history.specs.Linked.{IsRun, NodeMayDo}
use Rattle.run_history.specs.Linked.IsLinkedLog.{node_does, link_brings}
use Rattle.run_history.specs.Rules.{IsOutcome, MasterMayDo}
use Rattle.run_history.specs.Sending.{ItemWasSent}
use Rattle.run_history.proofs.LongerLogs.{nodes_append, sent_more, state_append}

-- ---- what a trace reaches

reached_by : (nodes : ℕ) (config : Config) (log : List RunEvent) (group : Group) (went : GroupTrace nodes config group) → IsLogOf nodes config log group went → IsReached nodes config log group
reached_by nodes config log group went (opens can) = record { nodes_are = refl; master_is = refl; sent_are = refl }
reached_by nodes config log group went (goes_on is event step one reached) = reached

pub reached : (nodes : ℕ) (config : Config) (log : List RunEvent) (history : IsHistory nodes config log) → IsReached nodes config log history.group
reached nodes config log history = reached_by nodes config log history.group history.went history.is

-- ---- the step of a node

were_sent : (group : Group) (node : ℕ) (item : Item) → ItemWasSent group.sent node item → WereSent group node (heard_with item)
were_sent group node (Peer message) i = (i, tt)
were_sent group node (Tick now) i = (tt, tt)
were_sent group node (Opened port now) i = tt
were_sent group node (Bytes port piece now) i = tt
were_sent group node (Ended port) i = tt
were_sent group node (Expel client) i = tt
were_sent group node Cut i = tt
were_sent group node Crash i = tt

-- a step of the group, with what it changes
record NodeStepped (group : Group) (node : ℕ) (act : NodeAct) (after : CoreState) (given : List (Effect Command Output)) : Type 0 where
  later : Group
  step : GroupStep group later
  is : IsNodeStep node act after given step
  nodes_are : later.nodes ≡ slice_set group.nodes node after
  master_is : later.master ≡ group.master
  sent_are : later.sent ≡ group.sent ++ messages given

node_steps : (group : Group) (node : ℕ) (core after : CoreState) (given : List (Effect Command Output)) (act : NodeAct) → slice_get group.nodes node ≡ Some core → NodeMayDo group.sent node core after given act → NodeStepped group node act after given
node_steps group node core after given (Takes item) at may =
    let outcome : StepOutcome = record { core = after; messages = given } in
    let by : IsRunOn item core outcome = losses_are_moves item core after given may.1 in record {
      later = _;
      step = node_loses node core item outcome given by at may.1 (were_sent group node item may.0) (Thinned-same given);
      is = (refl, refl, refl, refl);
      nodes_are = refl;
      master_is = refl;
      sent_are = refl;
    }
node_steps group node core after given (HandsOver port) at may =
    let run : MoveTrace core (done (hands_out port) core) = moves_on (hands port) rests in record {
      later = _;
      step = node_acts node core (hands_out port) (done (hands_out port) core) run at refl tt (tt, tt);
      is = (refl, refl, may.0, may.1);
      nodes_are = ap (slice_set group.nodes node) (sym may.0);
      master_is = refl;
      sent_are = ap (λ (es : List (Effect Command Output)). group.sent ++ messages es) (sym may.1);
    }

-- the log with one more event of a node
pub node_goes_on : (nodes : ℕ) (config : Config) (log : List RunEvent) (core : CoreState) (event : NodeEvent) → IsHistory nodes config log → slice_get (nodes_in nodes config log) event.node ≡ Some core
    → NodeMayDo (sent_in log) event.node core event.after.core event.given event.act → IsHistory nodes config (log ++ ByNode event ∷ [])
node_goes_on nodes config log core event history at may =
    let now = reached nodes config log history in
    let at' : slice_get history.group.nodes event.node ≡ Some core = ap (λ (ns : List CoreState). slice_get ns event.node) now.nodes_are ∙ at in
    let may' : NodeMayDo history.group.sent event.node core event.after.core event.given event.act = subst (λ (s : List (ℕ × Message Command)). NodeMayDo s event.node core event.after.core event.given event.act) (sym now.sent_are) may in
    let stepped = node_steps history.group event.node core event.after.core event.given event.act at' may' in
    let then : IsReached nodes config (log ++ ByNode event ∷ []) stepped.later = record {
      nodes_are = stepped.nodes_are ∙ (ap (λ (ns : List CoreState). slice_set ns event.node event.after.core) now.nodes_are ∙ sym (nodes_append (opening_cores nodes config) log (ByNode event ∷ [])));
      master_is = stepped.master_is ∙ (now.master_is ∙ sym (state_append (opening_master max_node config) log (ByNode event ∷ [])));
      sent_are = stepped.sent_are ∙ (ap (λ (s : List (ℕ × Message Command)). s ++ messages event.given) now.sent_are ∙ sym (sent_more log (ByNode event)));
    } in record {
      group = stepped.later;
      went = then_went history.went stepped.step;
      is = goes_on history.is (ByNode event) stepped.step stepped.is then;
    }

-- ---- the step of the master

record MasterStepped (group : Group) (event : MasterEvent) (act : MasterAct) : Type 0 where
  later : Group
  step : GroupStep group later
  is : IsMasterStep act step
  nodes_are : later.nodes ≡ group.nodes
  master_is : later.master ≡ event.after
  sent_are : later.sent ≡ group.sent ++ (event.receiver, event.message) ∷ []

told_so : (group : Group) (event : MasterEvent) (outcome : MasterOutcome Command) → IsOutcome event outcome
    → group.sent ++ (outcome.receiver, record { from = master; body = outcome.body }) ∷ [] ≡ group.sent ++ (event.receiver, event.message) ∷ []
told_so group event outcome is = sym (λ i. group.sent ++ (is.receiver i, is.message i) ∷ [])

master_steps : (group : Group) (event : MasterEvent) (act : MasterAct) → MasterMayDo group.sent group.master event act → MasterStepped group event act
master_steps group event (Assigns config) may =
    let outcome : MasterOutcome Command = assigned Command group.master config in record {
      later = _;
      step = master_assigns config;
      is = refl;
      nodes_are = ap (λ (why : Option AssignRefusal). (after_assign group config why).nodes) may.0;
      master_is = ap (λ (why : Option AssignRefusal). master_after group.master config why) may.0 ∙ sym may.1.after;
      sent_are = ap (λ (why : Option AssignRefusal). (after_assign group config why).sent) may.0 ∙ told_so group event outcome may.1;
    }
master_steps group event (Answers from ballot) may =
    let outcome : MasterOutcome Command = activated Command group.master ballot from group.master.waiting in record {
      later = _;
      step = master_hears from ballot may.0;
      is = refl;
      nodes_are = refl;
      master_is = sym may.1.after;
      sent_are = told_so group event outcome may.1;
    }

-- the log with one more event of the master
pub master_goes_on : (nodes : ℕ) (config : Config) (log : List RunEvent) (state : MasterState) (event : MasterEvent) → IsHistory nodes config log → master_in config log ≡ state
    → MasterMayDo (sent_in log) state event event.act → IsHistory nodes config (log ++ ByMaster event ∷ [])
master_goes_on nodes config log state event history at may =
    let now = reached nodes config log history in
    let is_state : state ≡ history.group.master = sym (now.master_is ∙ at) in
    let may' : MasterMayDo history.group.sent history.group.master event event.act =
    subst (λ (s : List (ℕ × Message Command)). MasterMayDo s history.group.master event event.act) (sym now.sent_are) (subst (λ (m : MasterState). MasterMayDo (sent_in log) m event event.act) is_state may) in
    let stepped = master_steps history.group event event.act may' in
    let then : IsReached nodes config (log ++ ByMaster event ∷ []) stepped.later = record {
      nodes_are = stepped.nodes_are ∙ (now.nodes_are ∙ sym (nodes_append (opening_cores nodes config) log (ByMaster event ∷ [])));
      master_is = stepped.master_is ∙ sym (state_append (opening_master max_node config) log (ByMaster event ∷ []));
      sent_are = stepped.sent_are ∙ (ap (λ (s : List (ℕ × Message Command)). s ++ (event.receiver, event.message) ∷ []) now.sent_are ∙ sym (sent_more log (ByMaster event)));
    } in record {
      group = stepped.later;
      went = then_went history.went stepped.step;
      is = goes_on history.is (ByMaster event) stepped.step stepped.is then;
    }

-- ---- a run with one more event

pub run_goes_on : (linked : Bool) (nodes : ℕ) (config : Config) (log : List RunEvent) (core : CoreState) (event : NodeEvent) → IsRun linked nodes config log → slice_get (nodes_in nodes config log) event.node ≡ Some core
    → NodeMayDo (sent_in log) event.node core event.after.core event.given event.act → IsRun linked nodes config (log ++ ByNode event ∷ [])
run_goes_on false nodes config log core event is at may = node_goes_on nodes config log core event is at may
run_goes_on true nodes config log core event is at may = node_does is event core at may

pub run_goes_on_with_master : (linked : Bool) (nodes : ℕ) (config : Config) (log : List RunEvent) (state : MasterState) (event : MasterEvent) → linked ≡ false → IsRun linked nodes config log → master_in config log ≡ state
    → MasterMayDo (sent_in log) state event event.act → IsRun linked nodes config (log ++ ByMaster event ∷ [])
run_goes_on_with_master false nodes config log state event own is at may = master_goes_on nodes config log state event is at may
run_goes_on_with_master true nodes config log state event own is at may = absurd (true≢false own)

pub run_goes_on_with_link : (linked : Bool) (nodes : ℕ) (config : Config) (log : List RunEvent) (brought : BroughtMessage) → linked ≡ true → IsRun linked nodes config log
    → IsRun linked nodes config (log ++ ByLink brought ∷ [])
run_goes_on_with_link false nodes config log brought is_linked is = absurd (true≢false (sym is_linked))
run_goes_on_with_link true nodes config log brought is_linked is = link_brings is brought
