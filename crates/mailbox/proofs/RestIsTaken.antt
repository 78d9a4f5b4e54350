-- If all that the lanes sent was taken, what was counted and what is left over are all of it.
use Rattle.std.specs.Prelude.{◌≡◌, ℕ, zero, suc, ◌<◌, List, [], ◌∷◌, ◌++◌, length, map, take, slice_index, slice_index_or, refl}
use Rattle.std.proofs.Common.{sym, ◌∙◌, ap, subst, arith}
use Rattle.std.proofs.lemmas.List.{take_all, length-map, map-append}
use Rattle.std.proofs.lemmas.List.Elements.{All-append}
use Rattle.std.proofs.Math.ListN.{get_or-map}
use Rattle.std.proofs.Math.Seq.{take-append_seam}
use Rattle.std.specs.List.{All}
use Rattle.mailbox.specs.Delivery.{items_of_lane}
use Rattle.mailbox.specs.Ends.{LaneView, ReceiverView, fresh_lanes, as_made, AreAllLanes, ArrivesWhole, unmet}
use Rattle.mailbox.specs.Kept.{IsDrained}
use Rattle.mailbox.proofs.ItemsOfALane.{items_of-append}

-- a fact that reads only f of each element goes over to a list with the same f of each
pub all_like : {X Y : Type 0} (P : Y → Type 0) (f : X → Y) (xs ys : List X) → map f xs ≡ map f ys
    → All (λ y. P (f y)) ys
    → All (λ x. P (f x)) xs
all_like P f xs ys e all k d within =
    let size : length xs ≡ length ys = sym (length-map xs f) ∙ ap length e ∙ length-map ys f in
    let there : k < length ys = omega arith in
    let same : f (slice_index_or xs k d) ≡ f (slice_index_or ys k d) =
    sym (get_or-map f xs k d) ∙ ap (λ l. slice_index_or l k (f d)) e ∙ get_or-map f ys k d in
    subst P (sym same) (all k d there)

module _ {T : Type 0} where
  only : (P : LaneView T → Type 0) (s : LaneView T) → P s → All P (s ∷ [])
  only P s it zero d within = it
  only P s it (suc k) d within = absurd (omega arith)

  -- what holds for each lane as it was made
  fresh_all : (P : LaneView T → Type 0) (inbox lanes : ℕ)
      → ((k : ℕ) → k < lanes → P (record { inbox = inbox; lane = k; met = 0; sent = [] }))
      → All P (fresh_lanes inbox lanes)
  fresh_all P inbox zero p = λ k d within. absurd (omega arith)
  fresh_all P inbox (suc lanes) p =
      All-append P (fresh_lanes inbox lanes) _
      (fresh_all P inbox lanes (λ k h. p k (omega arith)))
      (only P _ (p lanes (omega arith)))

  fresh_map : (inbox lanes : ℕ) → map as_made (fresh_lanes {T = T} inbox lanes) ≡ fresh_lanes inbox lanes
  fresh_map inbox zero = refl
  fresh_map inbox (suc lanes) =
      let last : LaneView T = record { inbox = inbox; lane = lanes; met = 0; sent = [] } in
      map-append as_made (fresh_lanes inbox lanes) (last ∷ [])
      ∙ ap (λ l. l ++ last ∷ []) (fresh_map inbox lanes)

  -- a fact of a lane's numbers holds for all lanes, if it does of those that were made
  pub of_all_lanes : (P : LaneView T → Type 0) (r : ReceiverView T) (lanes : List (LaneView T))
      → AreAllLanes r lanes
      → ((k : ℕ) → k < r.lanes → P (record { inbox = r.inbox; lane = k; met = 0; sent = [] }))
      → All (λ s. P (as_made s)) lanes
  of_all_lanes P r lanes are p =
      all_like P as_made lanes (fresh_lanes r.inbox r.lanes) (are ∙ sym (fresh_map r.inbox r.lanes))
      (fresh_all (λ s. P (as_made s)) r.inbox r.lanes p)

  made_of_unmet : (lanes : List (LaneView T)) → map as_made (map unmet lanes) ≡ map as_made lanes
  made_of_unmet [] = refl
  made_of_unmet (s ∷ lanes) = ap (λ l. as_made s ∷ l) (made_of_unmet lanes)

  -- that lanes are all lanes does not depend on what they know to be taken
  pub still_all_lanes : (r : ReceiverView T) (lanes before : List (LaneView T))
      → map unmet lanes ≡ map unmet before
      → AreAllLanes r before
      → AreAllLanes r lanes
  still_all_lanes r lanes before same are =
      sym (made_of_unmet lanes) ∙ ap (map as_made) same ∙ made_of_unmet before ∙ are

  -- a lane of which as many items were taken as it sent
  pub met_all : (taken taken' : List (ℕ × T)) (old new : LaneView T) (met count : ℕ)
      → new ≡ record old { met = met }
      → items_of_lane old.lane taken ≡ take met old.sent
      → count ≡ length new.sent
      → met ≡ count
      → taken' ≡ taken
      → IsDrained taken' new
  met_all taken taken' old new met count is first counted equal same =
      let sent : new.sent ≡ old.sent = ap (λ (s : LaneView T). s.sent) is in
      let size = ap length sent in
      let all : take met old.sent ≡ old.sent = take_all met old.sent (omega arith) in
      (λ i. items_of_lane (is i).lane (same i)) ∙ first ∙ all ∙ sym sent

  -- a lane all of whose items were taken, some before and the others now
  arrives : (counts : List ℕ) (before now left : List (ℕ × T)) (s : LaneView T)
      → now ≡ before ++ left
      → slice_index counts s.lane ≡ length (items_of_lane s.lane before)
      → IsDrained now s
      → ArrivesWhole counts left s
  arrives counts before now left s is counted all =
      let a : List T = items_of_lane s.lane before in
      let b : List T = items_of_lane s.lane left in
      let sent : s.sent ≡ a ++ b = sym all ∙ ap (items_of_lane s.lane) is ∙ items_of-append s.lane before left in
      (λ i. take (counted i) (sent i) ++ b) ∙ ap (λ l. l ++ b) (take-append_seam a b) ∙ sym sent

  pub all_arrives : (counts : List ℕ) (before now left : List (ℕ × T)) (r : ReceiverView T) (lanes : List (LaneView T))
      → now ≡ before ++ left
      → ((k : ℕ) → k < r.lanes → slice_index counts k ≡ length (items_of_lane k before))
      → AreAllLanes r lanes
      → All (IsDrained now) lanes
      → All (ArrivesWhole counts left) lanes
  all_arrives counts before now left r lanes is counted are all k d within =
      arrives counts before now left (slice_index_or lanes k d) is
      (of_all_lanes (λ s. slice_index counts s.lane ≡ length (items_of_lane s.lane before)) r lanes are counted k d within)
      (all k d within)
