-- What a sender publishes at QoS 2, and the state of each publication (MQTT 4.3.3).
use Rattle.std.specs.Prelude.{ℕ, Bool, false, ◌||◌, ◌==◌, if◌then◌else◌, List, [], ◌∷◌, Option, Some, None}

-- ---- the sender's items

-- one QoS 2 publication of a sender, with its state
pub data SenderItem (V : Type 0) : Type 0 where
  Queued : (value : V) → SenderItem V  -- it was not sent yet
  Sent : (value : V) → (id : ℕ) → SenderItem V  -- its PUBLISH was sent, and no PUBREC came
  Released : (value : V) → (id : ℕ) → SenderItem V  -- PUBREC came, and no PUBCOMP
  Done : (value : V) → SenderItem V  -- PUBCOMP came

-- the publication of an item
abbrev pub value_of : {V : Type 0} → SenderItem V → V
value_of (SenderItem.Queued value) = value
value_of (SenderItem.Sent value id) = value
value_of (SenderItem.Released value id) = value
value_of (SenderItem.Done value) = value

-- identifiers in flight: those of sent and of released items
abbrev pub busy : {V : Type 0} → List (SenderItem V) → List ℕ
busy (SenderItem.Sent value id ∷ items) = id ∷ busy items
busy (SenderItem.Released value id ∷ items) = id ∷ busy items
busy (_ ∷ items) = busy items
busy [] = []

-- the items in state sent, each as its identifier and value
abbrev pub sent : {V : Type 0} → List (SenderItem V) → List (ℕ × V)
sent (SenderItem.Sent value id ∷ items) = (id, value) ∷ sent items
sent (_ ∷ items) = sent items
sent [] = []

-- whether an item with this identifier is in state sent
abbrev pub has_sent : {V : Type 0} → ℕ → List (SenderItem V) → Bool
has_sent id (SenderItem.Sent value other ∷ items) = (id == other) || has_sent id items
has_sent id (_ ∷ items) = has_sent id items
has_sent id [] = false

-- whether an item with this identifier is in state released
abbrev pub has_released : {V : Type 0} → ℕ → List (SenderItem V) → Bool
has_released id (SenderItem.Released value other ∷ items) = (id == other) || has_released id items
has_released id (_ ∷ items) = has_released id items
has_released id [] = false

-- PUBREC releases an item
abbrev pub item_released : {V : Type 0} → ℕ → SenderItem V → SenderItem V
item_released id (SenderItem.Sent value other) =
    if id == other then SenderItem.Released value other else SenderItem.Sent value other
item_released id item = item

-- PUBCOMP makes an item done
abbrev pub finishing : {V : Type 0} → ℕ → SenderItem V → SenderItem V
finishing id (SenderItem.Released value other) =
    if id == other then SenderItem.Done value else SenderItem.Released value other
finishing id item = item

-- the first queued item is sent
abbrev pub start_first : {V : Type 0} → ℕ → List (SenderItem V) → List (SenderItem V)
start_first id (SenderItem.Queued value ∷ items) = SenderItem.Sent value id ∷ items
start_first id (item ∷ items) = item ∷ start_first id items
start_first id [] = []

-- the value of the first queued item
abbrev pub first_waiting : {V : Type 0} → List (SenderItem V) → Option V
first_waiting (SenderItem.Queued value ∷ items) = Some value
first_waiting (_ ∷ items) = first_waiting items
first_waiting [] = None
