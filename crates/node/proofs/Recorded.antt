-- Recorded.antt: what a node took from its inbox is what it took by the run's log.
use Rattle.std.proofs.Common.{◌≡◌, ℕ, ◌+◌, ◌-◌, ◌<◌, List, [], ◌∷◌, ◌++◌, Ok, Err, OnOk, OnErr, ap, sym, ◌∙◌, subst, arith}
use Rattle.std.specs.Prelude.{Result}
use Rattle.std.proofs.lemmas.List.{map_push}
use Rattle.mailbox.specs.Ends.{ReceiverView}
use Rattle.broker_spec.specs.declared.command.Command.{Command}
use Rattle.broker_spec.specs.declared.command.Output.{Output}
use Rattle.ballot_base.specs.declared.message.Effect.{Effect}
use Rattle.world_base.specs.declared.node_connections.handed.Handed.{Handed}
use Rattle.world_base.specs.declared.node_connections.port.Port.{Port}
use Rattle.world_base.specs.declared.node_core.item.Item.{Item}
use Rattle.run_history.specs.Log.{items_taken}
use Rattle.run_history.specs.Parties.{HandedOver, NodeView, TookItem}
use Rattle.run_history.proofs.TakenItems.{handed_items, took_items}
use Rattle.world_base.specs.node_core.Core.{CountedCore}
use Rattle.lists.specs.Lists.{Each}
use Rattle.lists.proofs.OfEach.{each_append}
use Rattle.node.specs.State.{AreOfLanes, NodeStateView, Replays, items_of, on_record}
use Rattle.node.specs.State.Replays.{hands}

-- the node on record has the number of the inbox, and by its log it took what was taken there
abbrev pub Tallies : ReceiverView Item → NodeView → Type 0
Tallies receiver node =
    (node.index + 1 ≡ receiver.inbox) × (items_taken receiver.inbox node.log ≡ items_of receiver.taken)

-- one more item
pub tallies_more : (old new : ReceiverView Item) (taken : ℕ × Item) (node next : NodeView) (before after : List (Effect Command Output))
    → new ≡ record old { taken = old.taken ++ taken ∷ [] } → TookItem node taken.1 next before after
    → Tallies old node → Tallies new next
tallies_more old new taken node next before after is took tallies =
    let inbox : new.inbox ≡ old.inbox = ap (λ (r : ReceiverView Item). r.inbox) is in (
      ap (λ n. n + 1) took.did.index ∙ (tallies.0 ∙ sym inbox),
      ap (λ n. items_taken n next.log) (inbox ∙ sym tallies.0)
          ∙ (took_items node next taken.1 before after took
          ∙ (ap (λ n. items_taken n node.log ++ taken.1 ∷ []) tallies.0
          ∙ (ap (λ l. l ++ taken.1 ∷ []) tallies.1
          ∙ (sym (map_push (λ (one : ℕ × Item). one.1) old.taken taken)
          ∙ sym (ap (λ (r : ReceiverView Item). items_of r.taken) is))))),
    )

-- nothing was taken yet
pub none_of_lanes : (receiver : ReceiverView Item) → receiver.taken ≡ [] → AreOfLanes receiver
none_of_lanes receiver none = subst (Each (λ (one : ℕ × Item). one.0 < receiver.lanes)) (sym none) tt

-- one more item was taken from one of the lanes
pub one_more_of_lanes : (old new : ReceiverView Item) (taken : ℕ × Item) → new ≡ record old { taken = old.taken ++ taken ∷ [] }
    → taken.0 < old.lanes → AreOfLanes old → AreOfLanes new
one_more_of_lanes old new taken is below before =
    subst AreOfLanes (sym is) (each_append (λ (one : ℕ × Item). one.0 < old.lanes) old.taken (taken ∷ []) before (below, tt))

-- a hand-over, or none
pub tallies_handed : {E : Type 0} (receiver : ReceiverView Item) (port : Port) (node next : NodeView) (result : Result Handed E)
    → OnOk result (HandedOver node port next) → OnErr result (next ≡ node) → Tallies receiver node → Tallies receiver next
tallies_handed receiver port node next (Ok h) ok err tallies = (
  ap (λ n. n + 1) ok.did.index ∙ tallies.0,
  ap (λ n. items_taken n next.log) (sym tallies.0)
      ∙ (handed_items node next port ok
      ∙ (ap (λ n. items_taken n node.log) tallies.0 ∙ tallies.1)),
)
tallies_handed receiver port node next (Err e) ok err tallies = subst (Tallies receiver) (sym err) tallies

-- the node is still the replay of what it took
pub replays_handed : {E : Type 0} (first_of : ℕ → CountedCore) (receiver : ReceiverView Item) (port : Port) (node next : NodeView) (result : Result Handed E)
    → OnOk result (HandedOver node port next) → OnErr result (next ≡ node)
    → Replays (first_of receiver.inbox) receiver.taken node.node → Replays (first_of receiver.inbox) receiver.taken next.node
replays_handed first_of receiver port node next (Ok h) ok err replays =
    subst (λ (c : CountedCore). Replays (first_of receiver.inbox) receiver.taken c) (sym ok.node) (hands port replays)
replays_handed first_of receiver port node next (Err e) ok err replays =
    subst (λ (n : NodeView). Replays (first_of receiver.inbox) receiver.taken n.node) (sym err) replays

-- the node on record is the one of the inbox's number
pub is_recorded : (state : NodeStateView) (node : NodeView) → node.index + 1 ≡ state.receiver.inbox → node.node ≡ state.node → node.log ≡ state.log → node ≡ on_record state
is_recorded state node named core log =
    let index : node.index ≡ state.receiver.inbox - 1 = omega (arith, named) in
    λ i. record { index = index i; node = core i; log = log i }

-- a step of the node on record, seen from the node with its inbox
pub took_seen : (old new : NodeStateView) (node next : NodeView) (item : Item) (before after : List (Effect Command Output))
    → node ≡ on_record old → next ≡ on_record new → TookItem node item next before after → TookItem (on_record old) item (on_record new) before after
took_seen old new node next item before after first last took =
    subst (λ (n : NodeView). TookItem n item (on_record new) before after) first
    (subst (λ (n : NodeView). TookItem node item n before after) last took)
