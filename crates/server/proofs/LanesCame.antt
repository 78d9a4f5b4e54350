-- LanesCame.antt: what came by each lane of a node that ended is all that the lane sent.
use Rattle.std.proofs.Common.{◌≡◌, ℕ, ◌<◌, zero, suc, List, [], ◌∷◌, ◌++◌, Option, Some, None, Result, Ok, Err, IfSome, OnOk, length, map, get_or, ◌∙◌, ap, sym, subst, arith}
use Rattle.std.specs.List.{All}
use Rattle.std.proofs.lemmas.List.{append-nil, append_assoc, get_or-map, length-map}
use Rattle.lists.specs.Lists.{Each}
use Rattle.lists.proofs.OfEach.{each_append}
use Rattle.mailbox.specs.Ends.{LaneView, unmet}
use Rattle.node.specs.LockedNode.{AreItsLanes, NodeView}
use Rattle.node.specs.Report.{ReportsAll}
use Rattle.run_history.specs.declared.event.RunEvent.{RunEvent}
use Rattle.run_history.specs.Log.{sent_in}
use Rattle.world_base.specs.declared.node_core.item.Item.{Item}
use Rattle.server.specs.Ended.{came_by}
use Rattle.server.specs.node_threads.LaneReports.{ReportsEach, SendsOwn, SendsRow}
use Rattle.server.specs.node_threads.LaneReports.ReportsEach.{begins}
use Rattle.server.specs.node_threads.ThreadLives.{AddsServed, CameBack, HasServed}

-- ---- lanes that come back

pub adds_none : (lanes : List (LaneView Item)) → AddsServed lanes lanes
adds_none lanes = record { added = []; is = sym (append-nil lanes); served = tt }

pub adds_one : (before after : List (LaneView Item)) (lane : LaneView Item) → after ≡ before ++ lane ∷ [] → HasServed lane → AddsServed before after
adds_one before after lane is served = record { added = lane ∷ []; is = is; served = (served, tt) }

pub adds_then : (before between after : List (LaneView Item)) → AddsServed before between → AddsServed between after → AddsServed before after
adds_then before between after first next = record {
  added = first.added ++ next.added;
  is = next.is ∙ (ap (λ (lanes : List (LaneView Item)). lanes ++ next.added) first.is ∙ append_assoc before first.added next.added);
  served = each_append HasServed first.added next.added first.served next.served;
}

-- a lane that sent nothing sent the reports of no connection
pub none_served : (lane : LaneView Item) → lane.sent ≡ [] → HasServed lane
none_served lane none = record { count = 0; reports = subst (λ (sent : List Item). ReportsEach lane.lane [] 0 sent) (sym none) begins }

pub some_served : (lane : Option (LaneView Item)) → IfSome lane (λ (one : LaneView Item). one.sent ≡ []) → IfSome lane HasServed
some_served None none = tt
some_served (Some lane) none = none_served lane none

-- one after another, if both succeed
pub adds_both : {A E : Type 0} (result : Result A E) (before between after : List (LaneView Item)) → AddsServed before between
    → OnOk result (AddsServed between after) → OnOk result (AddsServed before after)
adds_both (Ok answer) before between after first next = adds_then before between after first next
adds_both (Err error) before between after first next = tt

pub came_back : (number : ℕ) (log : List RunEvent) (own : LaneView Item) (lanes : List (LaneView Item))
    → SendsOwn (sent_in log) number [] own.sent → AddsServed (own ∷ []) lanes → CameBack number log lanes
came_back number log own lanes sends adds = record { own = own; others = adds.added; are = adds.is; sends = sends; served = adds.served }

-- ---- what came by them

each_at : {A : Type 0} (P : A → Type 0) (xs : List A) (k : ℕ) (d : A) → Each P xs → k < length xs → P (get_or xs k d)
each_at P [] k d each less = absurd (omega (arith, less))
each_at P (x ∷ xs) zero d each less = each.0
each_at P (x ∷ xs) (suc k) d each less = each_at P xs k d each.1 (omega (arith, less))

-- what came by the lane at a place is all that the lane there sent
module _ (node : NodeView) (old new : List (LaneView Item)) (taken left : List (ℕ × Item))
    (its : AreItsLanes node old) (same : map unmet new ≡ map unmet old) (whole : All (ReportsAll taken left) new) where
  long : length new ≡ length old
  long = sym (length-map new unmet) ∙ (ap length same ∙ length-map old unmet)

  -- at a place both have the same number, and sent the same
  alike : (k : ℕ) (d : LaneView Item) → k < length old → unmet (get_or new k d) ≡ unmet (get_or old k d)
  alike k d less =
      let less' : k < length new = omega (arith, less, long) in
      sym (get_or-map unmet new k d d less') ∙ (ap (λ (lanes : List (LaneView Item)). get_or lanes k d) same ∙ get_or-map unmet old k d d less)

  came_at : (k : ℕ) (d : LaneView Item) → k < length old → came_by k taken left ≡ (get_or old k d).sent
  came_at k d less =
      let same_lane : (get_or new k d).lane ≡ k = ap (λ (lane : LaneView Item). lane.lane) (alike k d less) ∙ its.placed k d less in
      ap (λ (lane : ℕ). came_by lane taken left) (sym same_lane)
      ∙ (whole k d (omega (arith, less, long)) ∙ ap (λ (lane : LaneView Item). lane.sent) (alike k d less))

module _ (number : ℕ) (log : List RunEvent) (node : NodeView) (old new : List (LaneView Item)) (taken left : List (ℕ × Item))
    (its : AreItsLanes node old) (same : map unmet new ≡ map unmet old) (whole : All (ReportsAll taken left) new) (back : CameBack number log old) where
  size : length old ≡ suc (length back.others)
  size = ap length back.are

  pub own_came : SendsOwn (sent_in log) number [] (came_by 0 taken left)
  own_came =
      subst (SendsOwn (sent_in log) number [])
      (sym (came_at node old new taken left its same whole 0 back.own (omega (arith, size))
      ∙ ap (λ (lanes : List (LaneView Item)). (get_or lanes 0 back.own).sent) back.are))
      back.sends

  pub row_came : (lane : ℕ) → 0 < lane → lane < length old → SendsRow lane [] (came_by lane taken left)
  row_came zero some less = absurd (omega (arith, some))
  row_came (suc k) some less =
      let at : get_or old (suc k) back.own ≡ get_or back.others k back.own = ap (λ (lanes : List (LaneView Item)). get_or lanes (suc k) back.own) back.are in
      let lane : (get_or back.others k back.own).lane ≡ suc k = ap (λ (one : LaneView Item). one.lane) (sym at) ∙ its.placed (suc k) back.own less in
      subst (SendsRow (suc k) [])
      (sym (came_at node old new taken left its same whole (suc k) back.own less ∙ ap (λ (one : LaneView Item). one.sent) at))
      (subst (λ (n : ℕ). SendsRow n [] (get_or back.others k back.own).sent) lane
      (each_at HasServed back.others k back.own back.served (omega (arith, less, size))))
