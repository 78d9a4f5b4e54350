-- AllMet.antt: what a lane knows once all that it sent was taken.
use Rattle.std.proofs.Common.{◌≡◌, ℕ, ◌≤◌, List, [], ◌∷◌, ◌++◌, length, take, ◌∙◌, ap, arith}
use Rattle.std.proofs.lemmas.List.{take_all}
use Rattle.mailbox.specs.Delivery.{items_of_lane}
use Rattle.mailbox.specs.Ends.{LaneView, all_met, unmet}
use Rattle.world_base.specs.declared.node_core.item.Item.{Item}

-- a lane of which no less was taken than it sent
pub met_all : (taken : List (ℕ × Item)) (old lane new : LaneView Item) (count : ℕ)
    → lane ≡ old
    → length lane.sent ≤ length (items_of_lane lane.lane taken)
    → count ≡ length (items_of_lane lane.lane taken)
    → items_of_lane lane.lane taken ≡ take count lane.sent
    → new ≡ record lane { met = count }
    → new ≡ all_met old
met_all taken old lane new count same arrived exact first is =
    let all : take count lane.sent ≡ lane.sent = take_all count lane.sent (omega (arith, arrived, exact)) in
    let size : count ≡ length lane.sent = exact ∙ ap length (first ∙ all) in
    is ∙ ap (λ (met : ℕ). record lane { met = met }) size ∙ ap all_met same

-- an item that is sent is what a lane sent more, whatever it knew to be taken
pub sent_more : (old lane new : LaneView Item) (item unsent : Item)
    → unmet lane ≡ unmet old
    → unsent ≡ item
    → new ≡ record lane { sent = lane.sent ++ unsent ∷ [] }
    → unmet new ≡ unmet (record old { sent = old.sent ++ item ∷ [] })
sent_more old lane new item unsent same is sent =
    ap unmet sent ∙ (λ i. record (same i) { sent = (same i).sent ++ is i ∷ [] })

-- what is all taken then does not depend on what was known before
pub all_met_alike : (one other : LaneView Item) → unmet one ≡ unmet other → all_met one ≡ all_met other
all_met_alike one other same = ap all_met same
