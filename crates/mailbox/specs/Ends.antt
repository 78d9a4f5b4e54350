-- What the two ends of an inbox show: its lanes, which send, and its receiver, which takes.
use Rattle.std.specs.Prelude.{◌≡◌, ℕ, zero, suc, ◌+◌, ◌-◌, ◌≤◌, List, [], ◌∷◌, ◌++◌, length, map, take, slice_index}
use Rattle.crossbeam_queue.specs.Fifo.{Held}
use Rattle.mailbox.specs.declared.limits.TheConstants.{MAX_ITEMS, MAX_LANES}
use Rattle.mailbox.specs.declared.lane.TheConstants.{MAX_SENT}
use Rattle.mailbox.specs.declared.view.Bounds.{Bounds}
use Rattle.mailbox.specs.Delivery.{items_of_lane, lane_view, dealt_receiver_view, Knew}

-- how many items an inbox holds at most
abbrev pub max_items : ℕ
max_items = MAX_ITEMS

-- how many lanes an inbox has at most
abbrev pub max_lanes : ℕ
max_lanes = MAX_LANES

-- a lane: the number of its inbox, its own, and how many of its items it knows to be taken
pub record LaneView (T : Type 0) : Type 0 where
  pub inbox : ℕ
  pub lane : ℕ
  pub met : ℕ
  -- history: no field keeps it
  pub sent : List T

-- a receiver: the number of its inbox, and how many lanes that has
pub record ReceiverView (T : Type 0) : Type 0 where
  pub inbox : ℕ
  pub lanes : ℕ
  -- history: no field keeps it
  pub taken : List (ℕ × T)

-- a receipt: the number of its inbox, and what it says about that inbox
pub record ReceiptView : Type 0 where
  pub inbox : ℕ
  -- history: no field keeps it
  pub bounds : Bounds

module _ {T : Type 0} where
  -- the lanes 0, 1, .. of a new inbox, in order, on which nothing was sent
  abbrev pub fresh_lanes : ℕ → ℕ → List (LaneView T)
  fresh_lanes inbox zero = []
  fresh_lanes inbox (suc lanes) =
      fresh_lanes inbox lanes ++ record { inbox = inbox; lane = lanes; met = 0; sent = [] } ∷ []

  -- at one moment, at which everything that the receipt says was true, the inbox held as many items
  -- as it can
  abbrev pub WasFull : LaneView T → ReceiptView → Type 0
  WasFull sender receipt =
      Held MAX_ITEMS
      (Knew (lane_view sender.lane sender.sent sender.met (MAX_SENT - length sender.sent)
      receipt.bounds))

  -- as far as the receipt says, there may be no room: what was taken, what the inbox can hold and
  -- what this lane may still send do not exceed what all lanes will ever send
  abbrev pub IsFullByReceipt : LaneView T → ReceiptView → Type 0
  IsFullByReceipt sender receipt =
      receipt.bounds.taken + MAX_ITEMS + (MAX_SENT - length sender.sent) ≤ receipt.bounds.most

  -- the lane has sent as much as it ever may
  abbrev pub IsSpent : LaneView T → Type 0
  IsSpent sender = MAX_SENT ≤ length sender.sent

  -- at one moment, at which everything that the receipt says was true, the inbox held nothing
  abbrev pub WasEmpty : ReceiverView T → ReceiptView → Type 0
  WasEmpty receiver receipt =
      Held 0 (Knew (dealt_receiver_view receiver.lanes receiver.taken receipt.bounds))

  -- every item that was sent, as far as the receipt says, is among these items that were taken
  abbrev pub HasArrived : ReceiptView → List (ℕ × T) → Type 0
  HasArrived receipt taken = receipt.bounds.sent ≤ length (items_of_lane receipt.bounds.lane taken)

  -- a lane as it was made
  abbrev pub as_made : LaneView T → LaneView T
  as_made sender = record sender { met = 0; sent = [] }

  -- these are all lanes of the receiver's inbox, in order
  abbrev pub AreAllLanes : ReceiverView T → List (LaneView T) → Type 0
  AreAllLanes receiver lanes = map as_made lanes ≡ fresh_lanes receiver.inbox receiver.lanes

  -- a lane, whatever it knows to be taken
  abbrev pub unmet : LaneView T → LaneView T
  unmet sender = record sender { met = 0 }

  -- a lane that knows that all that it sent was taken
  abbrev pub all_met : LaneView T → LaneView T
  all_met sender = record sender { met = length sender.sent }

  -- what was counted for a lane and what is left over from it are, in order, all that it sent
  abbrev pub ArrivesWhole : List ℕ → List (ℕ × T) → LaneView T → Type 0
  ArrivesWhole counts left sender =
      take (slice_index counts sender.lane) sender.sent ++ items_of_lane sender.lane left
      ≡ sender.sent
