-- ReportsTold.antt: what the report of a node's inbox says of the node in the run.
use Rattle.std.proofs.Common.{◌≡◌, ℕ, ◌<◌, List, length, map, ◌∙◌, sym, ap, subst, arith}
use Rattle.std.proofs.lemmas.List.{length-map}
use Rattle.lists.specs.Lists.{Each}
use Rattle.mailbox.specs.Ends.{LaneView, unmet}
use Rattle.node.specs.LockedNode.{AreItsLanes, NodeView as LockedView, ReportsOn}
use Rattle.node.specs.Report.{ReportView}
use Rattle.run_history.specs.declared.event.RunEvent.{RunEvent}
use Rattle.run_history.specs.Parties.{NodeView}
use Rattle.world_base.specs.declared.node_core.item.Item.{Item}
use Rattle.world_base.specs.node_core.Core.{CountedCore}
use Rattle.server.specs.declared.node_threads.lane_slots.TheConstants.{LANES}
use Rattle.server.specs.Ended.{IsTold}
use Rattle.server.specs.node_threads.ThreadLives.{CameBack}
use Rattle.server.proofs.LanesCame.{own_came, row_came}

-- lanes that differ in what they know to be taken are as many
pub as_many : (old new : List (LaneView Item)) (count : ℕ) → map unmet new ≡ map unmet old → length old ≡ count → length new ≡ count
as_many old new count same long =
    sym (length-map new unmet) ∙ (ap length same ∙ (length-map old unmet ∙ long))

-- the report of a node with all its 62 lanes, which all came back, is of the node of its number
pub told_so : (first : CountedCore) (number : ℕ) (locked : LockedView) (old lanes : List (LaneView Item)) (report : ReportView) (node : NodeView) (log : List RunEvent)
    → ReportsOn first locked.number lanes report node → locked.number ≡ number → AreItsLanes locked old → locked.lanes ≡ LANES
    → map unmet lanes ≡ map unmet old → CameBack number log old
    → IsTold (record { report = record { number = number; report = report }; node = node; log = log })
told_so first number locked old lanes report node log reports same its all alike back =
    let on : ReportsOn first number lanes report node = subst (λ (n : ℕ). ReportsOn first n lanes report node) same reports in
    let long : length old ≡ LANES = its.all ∙ all in
    let many : length lanes ≡ LANES = as_many old lanes LANES alike long in
    record {
      named = on.named;
      is = record {
        of = on.of;
        taken = on.taken;
        items = on.items;
        by_lanes = subst (λ (n : ℕ). Each (λ (one : ℕ × Item). one.0 < n) on.taken) many on.below;
        lanes = on.each ∙ many;
        counted = on.counted;
        connections = λ lane some less.
            row_came number log locked old lanes on.taken report.left its alike on.whole back lane some (omega (arith, less, long));
        own = own_came number log locked old lanes on.taken report.left its alike on.whole back;
        base = on.base;
      };
    }
