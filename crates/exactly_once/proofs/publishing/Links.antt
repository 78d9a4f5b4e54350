-- The transit of a publisher by two tests, and what a run does to a handshake's items and transit.
use Rattle.std.proofs.Common.{◌≡◌, ℕ, Bool, true, false, if◌then◌else◌, List, [], ◌∷◌, ◌++◌, Option, Some, None, refl, ap, ◌∙◌}
use Rattle.broker_spec.specs.Connection.{ConnectionName}
use Rattle.broker_spec.specs.Place.{Past, Limits}
use Rattle.exactly_once.specs.Items.{SenderItem}
use Rattle.exactly_once.specs.Handshake.{Forward, Backward, Transit, Handshake, with_items, sender_hears, reply}
use Rattle.exactly_once.specs.HandshakeSteps.{HandshakeTrace, HandshakeStep}
use Rattle.exactly_once.specs.HandshakeSteps.HandshakeStep.{hears, hears_alone, sender_leaves, receiver_leaves, parts}
use Rattle.exactly_once.specs.HandshakeSteps.HandshakeTrace.{stays, goes_on}
use Rattle.exactly_once.proofs.Exact.{run_then}
use Rattle.exactly_once.specs.Sides.{ClientConnection}
use Rattle.exactly_once.specs.Inside.Projections.{forward_of_own, backward_of_own, to_come, to_be_taken, is_current, transit_of_own, GoesTo}

-- the transit, by whether the receiver is on the sender's last connection, and whether the sender is
abbrev pub link_by : Bool → Bool → List (Forward ℕ) → List Backward → Transit ℕ
link_by true true f b = Transit.Joined f b
link_by true false f b = Transit.Ahead f
link_by false true f b = Transit.Behind b
link_by false false f b = Transit.Behind []

-- whether the current connection is the last confirmed one
abbrev pub current_last : Option ConnectionName → Option ClientConnection → Bool
current_last current (Some κ) = is_current current κ.name
current_last current None = false

-- what is not taken yet of what was written on it
abbrev pub forward_last : Option ClientConnection → List (Forward ℕ)
forward_last (Some κ) = forward_of_own (to_be_taken κ)
forward_last None = []

-- the answers on it that are not handled yet
abbrev pub backward_last : Limits → Past → Option ClientConnection → List Backward
backward_last limits past (Some κ) = backward_of_own (to_come limits past κ)
backward_last limits past None = []

pub link_is : (limits : Limits) (past : Past) (current : Option ConnectionName) (online : Bool) (last : Option ClientConnection)
    → transit_of_own limits past current online last ≡ link_by (current_last current last) online (forward_last last) (backward_last limits past last)
link_is limits past current online None = by online
  where
    by : (o : Bool) → Transit.Behind [] ≡ link_by false o [] []
    by true = refl
    by false = refl
link_is limits past current online (Some κ) = by (is_current current κ.name) online (forward_of_own (to_be_taken κ)) (backward_of_own (to_come limits past κ))
  where
    by : (c o : Bool) (f : List (Forward ℕ)) (b : List Backward)
        → (if c then (if o then Transit.Joined f b else Transit.Ahead f) else (if o then Transit.Behind b else Transit.Behind [])) ≡ link_by c o f b
    by true true f b = refl
    by true false f b = refl
    by false true f b = refl
    by false false f b = refl

-- ---- what is reached while nothing is accepted and no identifier received

pub record Reaches (h : Handshake ℕ) (items : List (SenderItem ℕ)) (l : Transit ℕ) : Type 0 where
  pub after : Handshake ℕ
  pub run : HandshakeTrace h after
  pub items_are : after.items ≡ items
  pub accepted : after.accepted ≡ h.accepted
  pub received : after.received ≡ h.received
  pub transit : after.transit ≡ l

-- nothing happens
pub reaches_itself : (h : Handshake ℕ) (l : Transit ℕ) → h.transit ≡ l → Reaches h h.items l
reaches_itself h l e = record { after = h; run = stays; items_are = refl; accepted = refl; received = refl; transit = e }

-- one move
pub reaches_by : (h : Handshake ℕ) (items : List (SenderItem ℕ)) (l m : Transit ℕ) → HandshakeStep h (with_items items l h) → l ≡ m → Reaches h items m
reaches_by h items l m move e =
    record { after = with_items items l h; run = goes_on stays move; items_are = refl; accepted = refl; received = refl; transit = e }

-- one after another
pub reaches_then : (h : Handshake ℕ) (items more : List (SenderItem ℕ)) (l m : Transit ℕ) → Reaches h items l
    → ((k : Handshake ℕ) → k.items ≡ items → k.transit ≡ l → Reaches k more m) → Reaches h more m
reaches_then h items more l m r next =
    let n = next r.after r.items_are r.transit in
    record {
      after = n.after;
      run = run_then r.run n.run;
      items_are = n.items_are;
      accepted = n.accepted ∙ r.accepted;
      received = n.received ∙ r.received;
      transit = n.transit;
    }

-- to a story's handshake, if the rest did not change
pub goes_of : (h k : Handshake ℕ) (items : List (SenderItem ℕ)) (l : Transit ℕ) → Reaches h items l → items ≡ k.items → h.accepted ≡ k.accepted
    → ((id : ℕ) → h.received id ≡ k.received id) → l ≡ k.transit → GoesTo h k
goes_of h k items l r i a e n =
    record {
      between = r.after;
      run = r.run;
      like = record { items = r.items_are ∙ i; accepted = r.accepted ∙ a; received = λ id. ap (λ (known : ℕ → Bool). known id) r.received ∙ e id; transit = r.transit ∙ n };
    }

-- ---- moves by the two tests

-- the sender leaves
pub sender_goes : (h : Handshake ℕ) (cur on : Bool) (f : List (Forward ℕ)) (b : List Backward) → h.transit ≡ link_by cur on f b → Reaches h h.items (link_by cur false f b)
sender_goes h true true f b e = reaches_by h h.items (Transit.Ahead f) (Transit.Ahead f) (sender_leaves f b e) refl
sender_goes h true false f b e = reaches_itself h (Transit.Ahead f) e
sender_goes h false true f b e = reaches_by h h.items (Transit.Behind []) (Transit.Behind []) parts refl
sender_goes h false false f b e = reaches_itself h (Transit.Behind []) e

-- the receiver leaves
pub receiver_goes : (h : Handshake ℕ) (cur on : Bool) (f : List (Forward ℕ)) (b : List Backward) → h.transit ≡ link_by cur on f b → Reaches h h.items (link_by false on f b)
receiver_goes h true true f b e = reaches_by h h.items (Transit.Behind b) (Transit.Behind b) (receiver_leaves f b e) refl
receiver_goes h true false f b e = reaches_by h h.items (Transit.Behind []) (Transit.Behind []) parts refl
receiver_goes h false true f b e = reaches_itself h (Transit.Behind b) e
receiver_goes h false false f b e = reaches_itself h (Transit.Behind []) e

-- the sender, while it is there, receives an answer
pub hears_one : (h : Handshake ℕ) (cur : Bool) (m : Backward) (f : List (Forward ℕ)) (b : List Backward) → h.transit ≡ link_by cur true f (m ∷ b)
    → Reaches h (sender_hears m h.items) (link_by cur true (f ++ reply m) b)
hears_one h true m f b e = reaches_by h (sender_hears m h.items) (Transit.Joined (f ++ reply m) b) (Transit.Joined (f ++ reply m) b) (hears m f b e) refl
hears_one h false m f b e = reaches_by h (sender_hears m h.items) (Transit.Behind b) (Transit.Behind b) (hears_alone m b e) refl
