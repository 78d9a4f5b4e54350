-- What holds after every run of a handshake.
use Rattle.std.specs.Prelude.{◌≡◌, ℕ, Bool, true, false, List, ◌∷◌, ◌++◌, map, Option, Some, None}
use Rattle.lists.specs.Lists.{In, Each}
use Rattle.exactly_once.specs.Items.{SenderItem, value_of}
use Rattle.exactly_once.specs.Handshake.{Forward, Transit, Handshake}
use Rattle.exactly_once.specs.HandshakeSteps.{HandshakeTrace, opening_handshake}

-- ---- what holds after every run

-- whether the receiver's PUBREC for an item has come to the sender
abbrev pub is_pubrec_received : {V : Type 0} → SenderItem V → Bool
is_pubrec_received (SenderItem.Released value id) = true
is_pubrec_received (SenderItem.Done value) = true
is_pubrec_received _ = false

-- What is accepted is a prefix of the items, in order, and each that is released is among them.
pub record HandshakeIsExact {V : Type 0} (handshake : Handshake V) : Type 0 where
  pub prefix : List (SenderItem V)
  pub others : List (SenderItem V)
  pub is : handshake.items ≡ prefix ++ others
  pub accepted : handshake.accepted ≡ map value_of prefix
  pub rest : Each (λ item. is_pubrec_received item ≡ false) others

-- each run from the opening leads to an exact handshake
abbrev pub RunsAreExact : Type 0 → Type 0
RunsAreExact V =
    (handshake : Handshake V) → HandshakeTrace (opening_handshake V) handshake →
    HandshakeIsExact handshake

-- what comes next to the receiver
abbrev pub next_of : {V : Type 0} → Transit V → Option (Forward V)
next_of (Transit.Joined (packet ∷ forward) backward) = Some packet
next_of (Transit.Ahead (packet ∷ forward)) = Some packet
next_of _ = None

-- a publication that comes with an identifier that the receiver knows was accepted before, the same
-- one
abbrev pub RepeatsWereAccepted : Type 0 → Type 0
RepeatsWereAccepted V =
    (handshake : Handshake V) → HandshakeTrace (opening_handshake V) handshake →
    (id : ℕ) (value : V) →
    next_of handshake.transit ≡ Some (Forward.Publish id value) →
    handshake.received id ≡ true → In value handshake.accepted
