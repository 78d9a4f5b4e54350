-- What further events change of what a log says.
use Rattle.std.proofs.Common.{◌≡◌, ℕ, ◌+◌, ◌≤◌, ◌==◌, Bool, true, false, if◌then◌else◌, List, [], ◌∷◌, ◌++◌, refl, ap, sym, ◌∙◌, subst, arith, append_assoc}
use Rattle.std.specs.Prelude.{slice_get, slice_set}
use Rattle.std.proofs.lemmas.List.{append-nil}
use Rattle.std.proofs.lemmas.Bool.Decides.{nat_tests}
use mathlib.Core.List.{IsPrefix}
use Rattle.lists.specs.Lists.{In}
use Rattle.lists.proofs.Members.{in_left}
use Rattle.lists.proofs.Places.{get_set, get_set_other}
use Rattle.ballot_base.specs.LawfulConfig.{max_node}
use Rattle.ballot_base.specs.StepOutcome.{master}
use Rattle.ballot_base.specs.declared.config.Config.{Config}
use Rattle.ballot_base.specs.declared.message.Message.{Message}
use Rattle.broker_spec.specs.declared.command.Command.{Command}
use Rattle.agreement.specs.MasterState.{MasterState, opening_master}
use Rattle.world_base.specs.declared.node_core.item.Item.{Item}
use Rattle.world_base.specs.declared.node_core.item.Item.TheVariants.{Peer, Tick, Opened, Bytes, Ended, Expel, Cut, Crash}
use Rattle.world_base.specs.node_core.Core.{CoreState}
use Rattle.headline.specs.node_group.Group.{opening_cores}
use Rattle.run_history.specs.declared.event.MasterEvent.{MasterEvent}
use Rattle.run_history.specs.declared.event.NodeEvent.{NodeEvent}
use Rattle.run_history.specs.declared.event.RunEvent.{RunEvent}
use Rattle.run_history.specs.declared.event.RunEvent.TheVariants.{Opens, ByNode, ByMaster, ByLink}
use Rattle.run_history.specs.History.{IsMasterOf, IsNodeOf}
use Rattle.run_history.specs.Log.{events_by, master_in, nodes_after, nodes_in, sent_by, sent_in, state_after}
use Rattle.run_history.specs.Sending.{ItemWasSent}

-- ---- a log with more at its end

pub nodes_append : (nodes : List CoreState) (xs ys : List RunEvent) → nodes_after nodes (xs ++ ys) ≡ nodes_after (nodes_after nodes xs) ys
nodes_append nodes [] ys = refl
nodes_append nodes (Opens group ∷ xs) ys = nodes_append nodes xs ys
nodes_append nodes (ByMaster event ∷ xs) ys = nodes_append nodes xs ys
nodes_append nodes (ByLink brought ∷ xs) ys = nodes_append nodes xs ys
nodes_append nodes (ByNode event ∷ xs) ys = nodes_append (slice_set nodes event.node event.after.core) xs ys

pub state_append : (state : MasterState) (xs ys : List RunEvent) → state_after state (xs ++ ys) ≡ state_after (state_after state xs) ys
state_append state [] ys = refl
state_append state (Opens group ∷ xs) ys = state_append state xs ys
state_append state (ByNode event ∷ xs) ys = state_append state xs ys
state_append state (ByLink brought ∷ xs) ys = state_append state xs ys
state_append state (ByMaster event ∷ xs) ys = state_append event.after xs ys

pub sent_append : (xs ys : List RunEvent) → sent_in (xs ++ ys) ≡ sent_in xs ++ sent_in ys
sent_append [] ys = refl
sent_append (x ∷ xs) ys = ap (λ t. sent_by x ++ t) (sent_append xs ys) ∙ sym (append_assoc (sent_by x) (sent_in xs) (sent_in ys))

pub events_append : (party : ℕ) (xs ys : List RunEvent) → events_by party (xs ++ ys) ≡ events_by party xs + events_by party ys
events_append party [] ys = omega arith
events_append party (x ∷ xs) ys = omega (arith, events_append party xs ys)

-- the messages of one more event
pub sent_more : (log : List RunEvent) (event : RunEvent) → sent_in (log ++ event ∷ []) ≡ sent_in log ++ sent_by event
sent_more log event = sent_append log (event ∷ []) ∙ ap (λ t. sent_in log ++ t) (append-nil (sent_by event))

-- a longer log has at least as many events of each party
pub events_grow : (party : ℕ) (xs ys : List RunEvent) → IsPrefix xs ys → events_by party xs ≤ events_by party ys
events_grow party xs ys p = omega (arith, ap (events_by party) (sym p.1) ∙ events_append party xs p.0)

-- ---- the events of others

untouched_by : (nodes : List CoreState) (node : ℕ) (event : NodeEvent) (ys : List RunEvent) (b : Bool) → (event.node + 1 == node + 1) ≡ b → (if b then 1 else 0) + events_by (node + 1) ys ≡ 0
    → (events_by (node + 1) ys ≡ 0 → slice_get (nodes_after (slice_set nodes event.node event.after.core) ys) node ≡ slice_get (slice_set nodes event.node event.after.core) node)
    → slice_get (nodes_after (slice_set nodes event.node event.after.core) ys) node ≡ slice_get nodes node
untouched_by nodes node event ys true is none rest = absurd (omega (arith, none))
untouched_by nodes node event ys false is none rest =
    let other : (node ≡ event.node) → ⊥ = λ e. grind (arith, nat_tests) in
    rest (omega (arith, none)) ∙ get_set_other nodes event.node node event.after.core other

-- events of others leave a node as it is
pub untouched : (nodes : List CoreState) (node : ℕ) (ys : List RunEvent) → events_by (node + 1) ys ≡ 0 → slice_get (nodes_after nodes ys) node ≡ slice_get nodes node
untouched nodes node [] none = refl
untouched nodes node (Opens group ∷ ys) none = untouched nodes node ys (omega (arith, none))
untouched nodes node (ByMaster event ∷ ys) none = untouched nodes node ys (omega (arith, none))
untouched nodes node (ByLink brought ∷ ys) none = untouched nodes node ys (omega (arith, none))
untouched nodes node (ByNode event ∷ ys) none = untouched_by nodes node event ys (event.node + 1 == node + 1) refl none (untouched (slice_set nodes event.node event.after.core) node ys)

-- events of nodes leave the master as it is
pub master_untouched : (state : MasterState) (ys : List RunEvent) → events_by master ys ≡ 0 → state_after state ys ≡ state
master_untouched state [] none = refl
master_untouched state (Opens group ∷ ys) none = master_untouched state ys (omega (arith, none))
master_untouched state (ByNode event ∷ ys) none = master_untouched state ys (omega (arith, none))
master_untouched state (ByMaster event ∷ ys) none = absurd (omega (arith, none))
master_untouched state (ByLink brought ∷ ys) none = absurd (omega (arith, none))

-- ---- the parties

none_more : (party count : ℕ) (xs ys : List RunEvent) (p : IsPrefix xs ys) → events_by party xs ≡ count → events_by party ys ≡ count → events_by party p.0 ≡ 0
none_more party count xs ys p counted same =
    let sum = ap (events_by party) (sym p.1) ∙ events_append party xs p.0 in omega (arith, sum, counted, same)

-- a node without further events is as it was
pub stays : (nodes : ℕ) (config : Config) (own log : List RunEvent) (node : ℕ) (core : CoreState) (count : ℕ) → IsPrefix own log → IsNodeOf nodes config own node core count → events_by (node + 1) log ≡ count → IsNodeOf nodes config log node core count
stays nodes config own log node core count p is same =
    let none = none_more (node + 1) count own log p is.counted same in
    subst (λ (l : List RunEvent). IsNodeOf nodes config l node core count) p.1 (record {
      has = ap (λ (ns : List CoreState). slice_get ns node) (nodes_append (opening_cores nodes config) own p.0) ∙ (untouched (nodes_in nodes config own) node p.0 none ∙ is.has);
      counted = omega (arith, events_append (node + 1) own p.0, is.counted, none);
    })

-- the master without further events is as it was
pub master_stays : (config : Config) (own log : List RunEvent) (state : MasterState) (count : ℕ) → IsPrefix own log → IsMasterOf config own state count → events_by master log ≡ count → IsMasterOf config log state count
master_stays config own log state count p is same =
    let none = none_more master count own log p is.counted same in
    subst (λ (l : List RunEvent). IsMasterOf config l state count) p.1 (record {
      has = state_append (opening_master max_node config) own p.0 ∙ (master_untouched (master_in config own) p.0 none ∙ is.has);
      counted = omega (arith, events_append master own p.0, is.counted, none);
    })

-- the node after one more event of it
pub goes_on : (nodes : ℕ) (config : Config) (log : List RunEvent) (core : CoreState) (count : ℕ) (event : NodeEvent) → IsNodeOf nodes config log event.node core count → IsNodeOf nodes config (log ++ ByNode event ∷ []) event.node event.after.core (count + 1)
goes_on nodes config log core count event is =
    let me : (event.node + 1 == event.node + 1) ≡ true = grind (arith, nat_tests) in record {
      has = ap (λ (ns : List CoreState). slice_get ns event.node) (nodes_append (opening_cores nodes config) log (ByNode event ∷ [])) ∙ get_set (nodes_in nodes config log) event.node core event.after.core is.has;
      counted = events_append (event.node + 1) log (ByNode event ∷ []) ∙ rw me (omega (arith, is.counted));
    }

-- the master after one more event of it
pub master_goes_on : (config : Config) (log : List RunEvent) (state : MasterState) (count : ℕ) (event : MasterEvent) → IsMasterOf config log state count → IsMasterOf config (log ++ ByMaster event ∷ []) event.after (count + 1)
master_goes_on config log state count event is = record {
  has = state_append (opening_master max_node config) log (ByMaster event ∷ []);
  counted = omega (arith, events_append master log (ByMaster event ∷ []), is.counted);
}

-- ---- what was sent

pub in_later : (sent : ℕ × Message Command) (xs ys : List RunEvent) → IsPrefix xs ys → In sent (sent_in xs) → In sent (sent_in ys)
in_later sent xs ys p i =
    subst (λ (l : List RunEvent). In sent (sent_in l)) p.1 (subst (In sent) (sym (sent_append xs p.0)) (in_left (sent_in p.0) i))

pub item_sent_later : (node : ℕ) (item : Item) (xs ys : List RunEvent) → IsPrefix xs ys → ItemWasSent (sent_in xs) node item → ItemWasSent (sent_in ys) node item
item_sent_later node (Peer message) xs ys p i = in_later (node + 1, message) xs ys p i
item_sent_later node (Tick now) xs ys p i = tt
item_sent_later node (Opened port now) xs ys p i = tt
item_sent_later node (Bytes port piece now) xs ys p i = tt
item_sent_later node (Ended port) xs ys p i = tt
item_sent_later node (Expel client) xs ys p i = tt
item_sent_later node Cut xs ys p i = tt
item_sent_later node Crash xs ys p i = tt
