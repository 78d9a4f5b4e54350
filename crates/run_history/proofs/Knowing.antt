-- What a node knows after an event of it.
use Rattle.std.proofs.Common.{◌≡◌, ℕ, ◌+◌, List, [], ◌∷◌, ◌++◌, length, drop, refl, sym, ◌∙◌, subst}
use mathlib.Core.List.{IsPrefix}
use Rattle.ballot_base.specs.declared.config.Config.{Config}
use Rattle.ballot_base.specs.declared.message.Effect.{Effect}
use Rattle.broker_spec.specs.declared.command.Command.{Command}
use Rattle.broker_spec.specs.declared.command.Output.{Output}
use Rattle.world_base.specs.node_core.Core.{CoreState, CountedCore}
use Rattle.world_base.specs.declared.node_connections.port.Port.{Port}
use Rattle.world_base.specs.declared.node_core.item.Item.{Item}
use Rattle.world_base.specs.node_core.Losses.{ItemStepOrLost}
use Rattle.world_base.specs.node_core.PortOutput.{hands_over}
use Rattle.run_history.specs.declared.event.NodeAct.{NodeAct}
use Rattle.run_history.specs.declared.event.NodeAct.TheVariants.{Takes, HandsOver}
use Rattle.run_history.specs.declared.event.NodeEvent.{NodeEvent}
use Rattle.run_history.specs.declared.event.RunEvent.{RunEvent}
use Rattle.run_history.specs.declared.event.RunEvent.TheVariants.{ByNode}
use Rattle.run_history.specs.History.{IsNodeOf}
use Rattle.run_history.specs.Log.{events_by, sent_in}
use Rattle.run_history.specs.Parties.{DidAct, HandedOver, NodeView, TookItem}
use Rattle.run_history.specs.Rules.{Added}
use Rattle.run_history.specs.Sending.{ItemWasSent}
use Rattle.run_history.proofs.LongerLogs.{goes_on, item_sent_later, stays}
use Rattle.run_history.proofs.Prefixes.{prefix_more, prefix_trans}

-- what was appended
pub drop_before : {A : Type 0} (xs ys zs : List A) (n : ℕ) → n ≡ length xs → zs ≡ xs ++ ys → drop n zs ≡ ys
drop_before {A = A} xs ys zs n len is = (λ i. drop (len i) (is i)) ∙ dropped xs
  where
    dropped : (xs : List A) → drop (length xs) (xs ++ ys) ≡ ys
    dropped [] = refl
    dropped (x ∷ xs) = dropped xs

-- the node by the log with its event
pub node_after : (nodes : ℕ) (config : Config) (own seen log : List RunEvent) (event : NodeEvent) (core : CoreState) (count : ℕ) → IsPrefix own seen → IsNodeOf nodes config own event.node core count
    → Added seen count (ByNode event) log → IsNodeOf nodes config log event.node event.after.core (count + 1)
node_after nodes config own seen log event core count p is added =
    let here = stays nodes config own added.before event.node core count (prefix_trans own seen added.before p added.begins) is added.counted in
    subst (λ (l : List RunEvent). IsNodeOf nodes config l event.node event.after.core (count + 1)) (sym added.now) (goes_on nodes config added.before core count event here)

-- the node did what was added
pub did_so : (old new : NodeView) (seen : List RunEvent) (act : NodeAct) (given : List (Effect Command Output)) (count : ℕ) → IsPrefix old.log seen
    → Added seen count (ByNode (record { node = old.index; act = act; after = new.node; given = given })) new.log
    → events_by (old.index + 1) old.log ≡ count → new.index ≡ old.index → DidAct old act given new
did_so old new seen act given count p added counted same = record {
  earlier = added.before;
  begins = prefix_trans old.log seen added.before p added.begins;
  none_since = added.counted ∙ sym counted;
  index = same;
  now = added.now;
}

-- what was known before an event was added is known after it
pub known_so : (known seen log : List RunEvent) (count : ℕ) (event : RunEvent) → IsPrefix known seen → Added seen count event log → IsPrefix known log
known_so known seen log count event p added =
    subst (IsPrefix known) (sym added.now) (prefix_trans known added.before (added.before ++ event ∷ []) (prefix_trans known seen added.before p added.begins) (prefix_more added.before (event ∷ [])))

-- the node stepped on an item
pub took_so : (old new : NodeView) (known seen : List RunEvent) (item taken : Item) (given : List (Effect Command Output)) (state : CountedCore) (count : ℕ) (before after : List (Effect Command Output)) → IsPrefix old.log seen → IsPrefix known seen
    → Added seen count (ByNode (record { node = old.index; act = Takes taken; after = state; given = given })) new.log → taken ≡ item → state ≡ new.node
    → events_by (old.index + 1) old.log ≡ count → new.index ≡ old.index → (stepped : ItemStepOrLost old.node item new.node before after) → given ≡ stepped.given
    → ItemWasSent (sent_in known) old.index item → TookItem old item new before after
unfolding did_so
took_so old new known seen item taken given state count before after p q added item_is state_is counted same stepped given_is sent =
    let event : ByNode (record { node = old.index; act = Takes taken; after = state; given = given }) ≡ ByNode (record { node = old.index; act = Takes item; after = new.node; given = stepped.given }) =
    λ i. ByNode (record { node = old.index; act = Takes (item_is i); after = state_is i; given = given_is i }) in
    let added' = subst (λ (e : RunEvent). Added seen count e new.log) event added in record {
      stepped = stepped;
      did = did_so old new seen (Takes item) stepped.given count p added' counted same;
      sent = item_sent_later old.index item known added'.before (prefix_trans known seen added'.before q added'.begins) sent;
    }

-- the node handed over the output of a port
pub handed_so : (old new : NodeView) (seen : List RunEvent) (port : Port) (state : CountedCore) (count : ℕ) → IsPrefix old.log seen
    → Added seen count (ByNode (record { node = old.index; act = HandsOver port; after = state; given = [] })) new.log → state ≡ new.node
    → events_by (old.index + 1) old.log ≡ count → new.index ≡ old.index → new.node ≡ record old.node { core = hands_over port old.node.core } → HandedOver old port new
handed_so old new seen port state count p added state_is counted same node =
    let event : ByNode (record { node = old.index; act = HandsOver port; after = state; given = [] }) ≡ ByNode (record { node = old.index; act = HandsOver port; after = new.node; given = [] }) =
    λ i. ByNode (record { node = old.index; act = HandsOver port; after = state_is i; given = [] }) in
    let added' = subst (λ (e : RunEvent). Added seen count e new.log) event added in record {
      node = node;
      did = did_so old new seen (HandsOver port) [] count p added' counted same;
    }
