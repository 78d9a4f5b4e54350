-- The invariant of the handshake: the two sides, and what is in transit between them.
use Rattle.std.specs.Prelude.{◌≡◌, ℕ, Bool, true, false, List, [], ◌∷◌, ◌++◌, map}
use Rattle.lists.specs.Lists.{In, has_id, IsDistinct, Each}
use Rattle.exactly_once.specs.Items.{SenderItem, value_of, busy, sent, has_sent, has_released}
use Rattle.exactly_once.specs.Handshake.{Forward, Backward, Transit, Handshake}

-- an accepted item was sent, and until it is released the receiver knows its identifier
abbrev pub IsOld : {V : Type 0} → (ℕ → Bool) → SenderItem V → Type 0
IsOld received (SenderItem.Queued value) = ⊥
IsOld received (SenderItem.Sent value id) = received id ≡ true
IsOld received (SenderItem.Released value id) = Unit {0}
IsOld received (SenderItem.Done value) = Unit {0}

-- any other item is queued, or sent with an identifier that the receiver does not know
abbrev pub IsNew : {V : Type 0} → (ℕ → Bool) → SenderItem V → Type 0
IsNew received (SenderItem.Queued value) = Unit {0}
IsNew received (SenderItem.Sent value id) = received id ≡ false
IsNew received (SenderItem.Released value id) = ⊥
IsNew received (SenderItem.Done value) = ⊥

-- the item is queued
abbrev pub IsQueued : {V : Type 0} → SenderItem V → Type 0
IsQueued (SenderItem.Queued value) = Unit {0}
IsQueued _ = ⊥

-- after a queued item all are queued
abbrev pub QueuedAreLast : {V : Type 0} → List (SenderItem V) → Type 0
QueuedAreLast (SenderItem.Queued value ∷ items) = Each IsQueued items
QueuedAreLast (_ ∷ items) = QueuedAreLast items
QueuedAreLast [] = Unit {0}

-- ---- what is in transit

-- the PUBLISH packets in transit, each as its identifier and value
abbrev pub publishes_in_transit : {V : Type 0} → List (Forward V) → List (ℕ × V)
publishes_in_transit (Forward.Publish id value ∷ forward) =
    (id, value) ∷ publishes_in_transit forward
publishes_in_transit (Forward.Pubrel id ∷ forward) = publishes_in_transit forward
publishes_in_transit [] = []

-- the identifier of a packet from the sender
abbrev pub forward_id : {V : Type 0} → Forward V → ℕ
forward_id (Forward.Publish id value) = id
forward_id (Forward.Pubrel id) = id

-- the identifier of a packet from the receiver
abbrev pub backward_id : Backward → ℕ
backward_id (Backward.Pubrec id) = id
backward_id (Backward.Pubcomp id) = id

-- a PUBREL is of a released item
abbrev pub IsMeant : {V : Type 0} → List (SenderItem V) → Forward V → Type 0
IsMeant old (Forward.Publish id value) = Unit {0}
IsMeant old (Forward.Pubrel id) = has_released id old ≡ true

-- a PUBREC is for an accepted item, and a PUBCOMP for one whose identifier the receiver forgot
abbrev pub IsDue : {V : Type 0} → (ℕ → Bool) → List (SenderItem V) → Backward → Type 0
IsDue received old (Backward.Pubrec id) = has_sent id old ≡ true
IsDue received old (Backward.Pubcomp id) = (has_released id old ≡ true) × (received id ≡ false)

-- an item that is in state sent, with this identifier and value
abbrev pub IsSent : {V : Type 0} → List (SenderItem V) → ℕ × V → Type 0
IsSent items row = In row (sent items)

-- what is in transit to the receiver: first retransmissions of accepted items, with their values,
-- then exactly these new ones
pub record ComesToReceiver {V : Type 0} (old : List (SenderItem V)) (forward : List (Forward V))
    (next : List (ℕ × V)) : Type 0 where
  pub again : List (ℕ × V)
  pub is : publishes_in_transit forward ≡ again ++ next
  pub known : Each (IsSent old) again
  pub meant : Each (IsMeant old) forward

-- both sides: each new item that was sent comes, answers are due, identifiers differ
pub record IsJoined {V : Type 0} (received : ℕ → Bool) (old new : List (SenderItem V))
    (forward : List (Forward V)) (backward : List Backward) : Type 0 where
  pub comes : ComesToReceiver old forward (sent new)
  pub due : Each (IsDue received old) backward
  pub apart : IsDistinct (map forward_id forward ++ map backward_id backward)

-- only to the sender: answers are due, and identifiers differ
pub record IsBehind {V : Type 0} (received : ℕ → Bool) (old : List (SenderItem V))
    (backward : List Backward) : Type 0 where
  pub due : Each (IsDue received old) backward
  pub apart : IsDistinct (map backward_id backward)

-- only to the receiver: of the new items that were sent, a prefix comes
pub record IsAhead {V : Type 0} (old new : List (SenderItem V)) (forward : List (Forward V))
    : Type 0 where
  pub next : List (ℕ × V)
  pub more : List (ℕ × V)
  pub comes : ComesToReceiver old forward next
  pub prefix : sent new ≡ next ++ more

-- what is in transit fits the items, by which sides are on the connection
abbrev pub FitsTransit : {V : Type 0} → (ℕ → Bool) → List (SenderItem V) → List (SenderItem V) →
    Transit V → Type 0
FitsTransit received old new (Transit.Joined forward backward) =
    IsJoined received old new forward backward
FitsTransit received old new (Transit.Behind backward) = IsBehind received old backward
FitsTransit received old new (Transit.Ahead forward) = IsAhead old new forward

-- the two sides, apart from what is in transit
pub record AreSides {V : Type 0} (items : List (SenderItem V)) (accepted : List V)
    (received : ℕ → Bool) (old new : List (SenderItem V)) : Type 0 where
  pub is : items ≡ old ++ new
  pub accepted_is : accepted ≡ map value_of old
  pub olds : Each (IsOld received) old
  pub news : Each (IsNew received) new
  pub waits_last : QueuedAreLast new
  pub apart : IsDistinct (busy (old ++ new))
  pub known : (id : ℕ) → received id ≡ true → has_id id (busy old) ≡ true

-- the items are accepted ones, then new ones, and the transit fits them
pub record IsGood {V : Type 0} (handshake : Handshake V) : Type 0 where
  pub old : List (SenderItem V)
  pub new : List (SenderItem V)
  pub sides : AreSides handshake.items handshake.accepted handshake.received old new
  pub transit : FitsTransit handshake.received old new handshake.transit
