-- ReportIsOn.antt: what a node's state reports at its end is about the node that ended.
use Rattle.std.proofs.Common.{◌≡◌, ℕ, ◌+◌, ◌<◌, List, All, EachIndex, map, length, slice_index, ap, sym, ◌∙◌, subst}
use Rattle.std.proofs.lemmas.List.{length-map}
use Rattle.lists.specs.Lists.{Each}
use Rattle.mailbox.specs.Delivery.{items_of_lane}
use Rattle.mailbox.specs.Ends.{LaneView, unmet}
use Rattle.world_base.specs.declared.node_core.item.Item.{Item}
use Rattle.world_base.specs.node_core.Core.{CountedCore}
use Rattle.run_history.specs.Log.{items_taken}
use Rattle.run_history.specs.Parties.{NodeView as RecordView}
use Rattle.node.specs.LockedNode.{ReportsOn}
use Rattle.node.specs.Report.{ReportsAll, ReportView}
use Rattle.node.specs.State.{AreOfLanes, NodeStateView, Replays, items_of, on_record}

pub report_is_on : (first_of : ℕ → CountedCore) (state : NodeStateView) (number : ℕ) (old lanes : List (LaneView Item)) (report : ReportView)
    (ended : RecordView) → state.receiver.inbox ≡ number → length old ≡ state.receiver.lanes → map unmet lanes ≡ map unmet old
    → ended ≡ on_record state → Replays (first_of state.receiver.inbox) state.receiver.taken state.node
    → ended.index + 1 ≡ state.receiver.inbox → items_taken state.receiver.inbox state.log ≡ items_of state.receiver.taken
    → All (ReportsAll state.receiver.taken report.left) lanes → AreOfLanes state.receiver
    → length report.taken ≡ state.receiver.lanes
    → EachIndex report.taken (λ lane. slice_index report.taken lane ≡ length (items_of_lane lane state.receiver.taken))
    → report.number ≡ state.receiver.inbox → report.base ≡ state.node.core.replica.state.log.base → ReportsOn (first_of number) number lanes report ended
report_is_on first_of state number old lanes report ended is_number all same is_ended replays named items whole below each counted of base =
    let lens : state.receiver.lanes ≡ length lanes
    = sym all ∙ (sym (length-map old unmet) ∙ (sym (ap length same) ∙ length-map lanes unmet)) in
    record {
      taken = state.receiver.taken;
      replays = subst (λ n. Replays (first_of n) state.receiver.taken ended.node) is_number
          (subst (λ (e : RecordView). Replays (first_of state.receiver.inbox) state.receiver.taken e.node) (sym is_ended) replays);
      named = named ∙ is_number;
      of = of ∙ is_number;
      items = subst (λ n. items_taken n ended.log ≡ items_of state.receiver.taken) is_number
          (ap (λ (e : RecordView). items_taken state.receiver.inbox e.log) is_ended ∙ items);
      whole = whole;
      below = subst (λ n. Each (λ (one : ℕ × Item). one.0 < n) state.receiver.taken) lens below;
      each = each ∙ lens;
      counted = counted;
      base = base ∙ ap (λ (e : RecordView). e.node.core.replica.state.log.base) (sym is_ended);
    }
