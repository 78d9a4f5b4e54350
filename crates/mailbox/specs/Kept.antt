-- What lanes, receivers, receipts, dealers and inboxes keep of their passes, and what was taken.
use Rattle.std.specs.Prelude.{◌≡◌, ℕ, ◌-◌, ◌*◌, ◌^◌, ◌<◌, ◌≤◌, List, [], ◌++◌, length, slice_index}
use Rattle.atomic_table.specs.Seated.{TableId}
use Rattle.crossbeam_queue.specs.Passes.{Pass, view}
use Rattle.mailbox.specs.declared.limits.TheConstants.{MAX_ITEMS}
use Rattle.mailbox.specs.declared.lane.TheConstants.{MAX_SENT}
use Rattle.mailbox.specs.declared.view.View.{View}
use Rattle.mailbox.specs.Delivery.{items_of_lane, lane_view, no_bounds, receiver_view, dealt_receiver_view}
use Rattle.mailbox.specs.Ends.{LaneView, ReceiverView, max_lanes}
use Rattle.mailbox.specs.Inside.{nobody}

-- what a lane keeps: its pass, for the inbox that its number names, knows what the lane shows
pub record LaneKept {T : Type 0}
    (queue : TableId) (room : ℕ) (pass : Pass (ℕ × T) (View T)) (name : TableId) (lane count : ℕ)
    : Type 0 where
  pub of_queue : pass.table_id ≡ queue
  pub at_rest : pass.me.1 ≡ []
  pub named : queue ≡ name
  pub has_room : room ≡ MAX_ITEMS
  pub role :
      view pass
      ≡ lane_view lane (view pass).sent (view pass).met
      (MAX_SENT - length (view pass).sent) (view pass).bounds
  pub few : length (view pass).sent ≤ MAX_SENT
  pub counted : count ≡ length (view pass).sent

-- what a receiver keeps: its pass knows what it shows, and how many items of each lane it took
pub record ReceiverKept {T : Type 0}
    (queue : TableId) (room : ℕ) (pass : Pass (ℕ × T) (View T)) (name : TableId) (counts : List ℕ)
    : Type 0 where
  pub of_queue : pass.table_id ≡ queue
  pub at_rest : pass.me.1 ≡ []
  pub named : queue ≡ name
  pub has_room : room ≡ MAX_ITEMS
  pub role : view pass ≡ dealt_receiver_view (length counts) (view pass).taken (view pass).bounds
  pub counted :
      (lane : ℕ)
      → lane < length counts
      → slice_index counts lane ≡ length (items_of_lane lane (view pass).taken)

-- what a receipt keeps: its pass, for the inbox that its number names, knows what it says
pub record ReceiptKept {T : Type 0} (pass : Pass (ℕ × T) (View T)) (name : TableId) : Type 0 where
  pub of_queue : pass.table_id ≡ name
  pub at_rest : pass.me.1 ≡ []
  pub role : view pass ≡ record nobody { bounds = (view pass).bounds }

-- what a dealer keeps: its pass, for the inbox that its number names, has made this many lanes
pub record DealerKept {T : Type 0}
    (queue : TableId) (room : ℕ) (pass : Pass (ℕ × T) (View T)) (name : TableId) (counts : List ℕ)
    : Type 0 where
  pub of_queue : pass.table_id ≡ queue
  pub at_rest : pass.me.1 ≡ []
  pub named : queue ≡ name
  pub has_room : room ≡ MAX_ITEMS
  pub role :
      view pass
      ≡ receiver_view (length counts) [] (2 ^ 64 - length counts * MAX_SENT) (2 ^ 64) no_bounds
  pub few : length counts ≤ max_lanes
  pub counted : (lane : ℕ) → slice_index counts lane ≡ 0

-- what an inbox without lanes keeps
pub record InboxKept {T : Type 0}
    (queue : TableId) (room : ℕ) (pass : Pass (ℕ × T) (View T))
    : Type 0 where
  pub of_queue : pass.table_id ≡ queue
  pub at_rest : pass.me.1 ≡ []
  pub has_room : room ≡ MAX_ITEMS
  pub has_slots : queue.slots ≡ MAX_ITEMS
  pub role : view pass ≡ receiver_view 0 [] (2 ^ 64) (2 ^ 64) no_bounds

-- what the receiver took more is what was appended to the list
pub record TakesMore {T : Type 0} (old new : ReceiverView T)
    (list longer : List (ℕ × T)) : Type 0 where
  pub more : List (ℕ × T)
  pub history : new ≡ record old { taken = old.taken ++ more }
  pub listed : longer ≡ list ++ more

-- all that a lane sent was taken
abbrev pub IsDrained : {T : Type 0} → List (ℕ × T) → LaneView T → Type 0
IsDrained taken sender = items_of_lane sender.lane taken ≡ sender.sent
