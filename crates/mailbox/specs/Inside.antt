-- What each use of a pass does to what is known.
use Rattle.std.specs.Prelude.{◌≡◌, ℕ, ◌+◌, ◌-◌, ◌^◌, ◌<◌, ◌≤◌, false, List, [], ◌∷◌, ◌++◌, length}
use Rattle.mailbox.specs.declared.lane.TheConstants.{MAX_SENT}
use Rattle.mailbox.specs.declared.view.View.{View}
use Rattle.mailbox.specs.Delivery.{items_of_lane, lane_view, no_bounds, receiver_view}

module _ {T : Type 0} where
  -- a pass that knows nothing
  abbrev pub nobody : View T
  nobody = record {
    is_of_lane = false;
    lane = 0;
    sent = [];
    met = 0;
    is_of_receiver = false;
    lanes = 0;
    taken = [];
    may_send = 0;
    all = 2 ^ 64;
    bounds = no_bounds;
  }

  -- a push: the lane sent one item more
  abbrev pub Sent : View T → (ℕ × T) → View T → Type 0
  Sent old item new =
      new ≡ record old { sent = old.sent ++ item.1 ∷ []; may_send = old.may_send - 1 }

  -- a pop: the receiver took one item more, of a lane that was made and is not spent
  abbrev pub Took : View T → (ℕ × T) → View T → Type 0
  Took old item new =
      (new ≡ record old { taken = old.taken ++ item ∷ [] })
      × (item.0 < old.lanes)
      × (length (items_of_lane item.0 old.taken) < MAX_SENT)

  -- the receiver makes a lane
  abbrev pub dealing : View T → View T
  dealing view = record view { lanes = view.lanes + 1; may_send = view.may_send - MAX_SENT }

  -- the lane that it makes
  abbrev pub dealt : View T → View T
  dealt view = lane_view view.lanes [] 0 MAX_SENT no_bounds

  -- the receiver makes no more lanes
  abbrev pub sealed : View T → View T
  sealed view = record view { may_send = 0; all = view.all - view.may_send }

  -- a lane says what it has sent
  abbrev pub lane_knows : View T → View T
  lane_knows view = record nobody {
    bounds = record no_bounds { lane = view.lane; sent = length view.sent };
  }

  -- the receiver says what it has taken, and how many items there will ever be
  abbrev pub receiver_knows : View T → View T
  receiver_knows view = record nobody {
    bounds = record no_bounds { taken = length view.taken; most = view.all };
  }

  -- a lane that sends no more says that, in addition to what receipts say
  abbrev pub ended : View T → View T
  ended view = record nobody {
    bounds = record view.bounds {
      lane = view.lane;
      sent = length view.sent;
      most = view.bounds.most - view.may_send;
    };
  }

  -- what a receipt says is added
  abbrev pub heard : View T → View T → View T
  heard view receipt = record view { bounds = receipt.bounds }

  -- the receiver's view with a lane's added
  abbrev pub joined : View T → View T → View T
  joined receiver sender = record receiver {
    is_of_lane = sender.is_of_lane;
    lane = sender.lane;
    sent = sender.sent;
    met = sender.met;
    may_send = receiver.may_send + sender.may_send;
  }

  -- what was taken of the lane is a prefix of what it sent, and no less than it knew
  pub record Learned (view : View T) : Type 0 where
    pub rest : List T
    pub prefix : view.sent ≡ items_of_lane view.lane view.taken ++ rest
    pub more : view.met ≤ length (items_of_lane view.lane view.taken)
    pub made : view.lane < view.lanes

  -- the receiver's part of a view that both share
  abbrev pub receiver_part : View T → View T
  receiver_part view = receiver_view view.lanes view.taken 0 view.all view.bounds

  -- the lane's part, which knows now how much of it was taken
  abbrev pub lane_part : View T → View T
  lane_part view =
      lane_view view.lane view.sent (length (items_of_lane view.lane view.taken)) view.may_send
      view.bounds
