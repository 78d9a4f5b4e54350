-- The rule of an inbox: for each lane, what was taken of it and what the inbox still holds for it
-- are, in order, all that it sent.
use Rattle.std.specs.Prelude.{◌≡◌, ◌==◌, ℕ, ◌+◌, ◌*◌, ◌^◌, ◌<◌, ◌≤◌, true, false, List, [], ◌∷◌, ◌++◌, length, if◌then◌else◌}
use mathlib.Core.Option.{some}
use lib.ListN.{get_elem?}
use Rattle.mailbox.specs.declared.lane.TheConstants.{MAX_SENT}
use Rattle.mailbox.specs.declared.view.Bounds.{Bounds}
use Rattle.mailbox.specs.declared.view.View.{View}

-- the items of one lane, in order
abbrev pub items_of_lane : {T : Type 0} → ℕ → List (ℕ × T) → List T
items_of_lane lane [] = []
items_of_lane lane (item ∷ items) = if item.0 == lane then item.1 ∷ items_of_lane lane items
    else items_of_lane lane items

-- what is known without a receipt: only that no inbox ever gets more than 2^64 items
abbrev pub no_bounds : Bounds
no_bounds = record { lane = 0; sent = 0; taken = 0; most = 2 ^ 64 }

-- what a lane knows: its number, what it sent, how many of these it knows to be taken, how many
-- more it may send, and what receipts say
abbrev pub lane_view : {T : Type 0} → ℕ → List T → ℕ → ℕ → Bounds → View T
lane_view lane sent met may_send bounds = record {
  is_of_lane = true;
  lane = lane;
  sent = sent;
  met = met;
  is_of_receiver = false;
  lanes = 0;
  taken = [];
  may_send = may_send;
  all = 2 ^ 64;
  bounds = bounds;
}

-- what the receiver knows: how many lanes there are, what it took, how many items the lanes that it
-- has not made yet may send, how many all lanes may send, and what receipts say
abbrev pub receiver_view : {T : Type 0} → ℕ → List (ℕ × T) → ℕ → ℕ → Bounds → View T
receiver_view lanes taken may_send all bounds = record {
  is_of_lane = false;
  lane = 0;
  sent = [];
  met = 0;
  is_of_receiver = true;
  lanes = lanes;
  taken = taken;
  may_send = may_send;
  all = all;
  bounds = bounds;
}

-- what a receiver shows once it has made all its lanes, each of which may send `MAX_SENT` items
abbrev pub dealt_receiver_view : {T : Type 0} → ℕ → List (ℕ × T) → Bounds → View T
dealt_receiver_view lanes taken bounds = receiver_view lanes taken 0 (lanes * MAX_SENT) bounds

-- how many items may still be sent
abbrev pub rights : {T : Type 0} → List (View T) → ℕ
rights [] = 0
rights (view ∷ views) = view.may_send + rights views

module _ {T : Type 0} where
  -- what a lane's pass knows is true, and no other pass is this lane's
  abbrev pub FitsLane : (ℕ → ℕ) → (ℕ → List T) → List (ℕ × T) → ℕ → ℕ → View T → Type 0
  FitsLane pass_of sent taken made port view =
      view.is_of_lane ≡ true
      → (port ≡ pass_of view.lane)
      × (view.sent ≡ sent view.lane)
      × (view.met ≤ length (items_of_lane view.lane taken))
      × (view.lane < made)

  -- what the receiver's pass knows is true, and no other pass is the receiver's
  abbrev pub FitsReceiver : ℕ → List (ℕ × T) → ℕ → ℕ → View T → Type 0
  FitsReceiver reader taken made port view =
      view.is_of_receiver ≡ true → (port ≡ reader) × (view.taken ≡ taken) × (view.lanes ≡ made)

  -- what receipts say to a pass is true, and the greatest number of items that it knows is right
  abbrev pub FitsBounds : (ℕ → List T) → List (ℕ × T) → ℕ → View T → Type 0
  FitsBounds sent taken most view =
      (view.bounds.sent ≤ length (sent view.bounds.lane))
      × (view.bounds.taken ≤ length taken)
      × (most ≤ view.bounds.most)
      × (most ≤ view.all)

-- the rule, over what the inbox holds and what each pass knows
pub record FitsRule {T : Type 0} (items : List (ℕ × T)) (views : List (View T)) : Type 0 where
  pub reader : ℕ
  pub made : ℕ
  pub pass_of : ℕ → ℕ
  pub sent : ℕ → List T
  pub taken : List (ℕ × T)
  pub most : ℕ
  pub whole : (lane : ℕ) → items_of_lane lane (taken ++ items) ≡ sent lane
  pub few : (lane : ℕ) → length (sent lane) ≤ MAX_SENT
  pub unmade : (lane : ℕ) → made ≤ lane → sent lane ≡ []
  pub within : length taken + length items + rights views ≤ most
  pub finite : most ≤ 2 ^ 64
  pub fits :
      (port : ℕ) (view : View T)
      → get_elem? views port ≡ some view
      → FitsLane pass_of sent taken made port view
      × FitsReceiver reader taken made port view
      × FitsBounds sent taken most view

-- one of an inbox's passes knew this while the inbox held these items
pub record Knew {T : Type 0} (view : View T) (items : List (ℕ × T)) : Type 0 where
  pub views : List (View T)
  pub port : ℕ
  pub holds : FitsRule items views
  pub knows : get_elem? views port ≡ some view
