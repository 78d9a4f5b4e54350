-- The QoS 2 handshake of a sender and a receiver, over connections that come and go (MQTT 4.3.3,
-- 4.4).
--
-- It is the whole argument for exactly once, without broker or network. The sender keeps each
-- publication until PUBCOMP, and keeps its identifier in use that long. The receiver keeps an
-- identifier from PUBLISH to PUBREL. So a PUBLISH under a known identifier is a retransmission, and
-- is answered without being accepted; one under an unknown identifier is new. A packet may be lost
-- with its connection but never overtakes another, and on a new connection the sender first
-- retransmits what is in flight.
use Rattle.std.specs.Prelude.{ℕ, Bool, true, false, not, ◌&&◌, ◌||◌, ◌==◌, List, [], ◌∷◌, ◌++◌, map}
use Rattle.exactly_once.specs.Items.{SenderItem, sent, item_released, finishing}

-- a packet from the sender to the receiver
pub data Forward (V : Type 0) : Type 0 where
  Publish : (id : ℕ) → (value : V) → Forward V  -- a publication at QoS 2, the first time or again
  Pubrel : (id : ℕ) → Forward V  -- that PUBLISH does not come again

-- a packet from the receiver to the sender
pub data Backward : Type 0 where
  Pubrec : (id : ℕ) → Backward  -- the PUBLISH came, so it need not come again
  Pubcomp : (id : ℕ) → Backward  -- the identifier is forgotten, and may be used again

-- the connection between the two sides, with what is in transit on it
pub data Transit (V : Type 0) : Type 0 where
  Joined : (forward : List (Forward V)) → (backward : List Backward) → Transit V  -- both are on it
  Behind : (backward : List Backward) → Transit V  -- the receiver left; the sender may receive
  Ahead : (forward : List (Forward V)) → Transit V  -- the sender left; the receiver may take

-- the items, what is accepted, which identifiers the receiver knows, and what is in transit
pub record Handshake (V : Type 0) : Type 0 where
  pub items : List (SenderItem V)
  pub accepted : List V
  pub received : ℕ → Bool
  pub transit : Transit V

-- the receiver's answer to a packet of the sender
abbrev pub answer : {V : Type 0} → Forward V → Backward
answer (Forward.Publish id value) = Backward.Pubrec id
answer (Forward.Pubrel id) = Backward.Pubcomp id

-- the sender's answer to a packet of the receiver
abbrev pub reply : {V : Type 0} → Backward → List (Forward V)
reply (Backward.Pubrec id) = Forward.Pubrel id ∷ []
reply (Backward.Pubcomp id) = []

-- the receiver accepts a publication unless it knows the identifier
abbrev pub receiver_accepts : {V : Type 0} → ℕ → V → Bool → Handshake V → Transit V → Handshake V
receiver_accepts id value true handshake transit =
    record {
      items = handshake.items;
      accepted = handshake.accepted;
      received = handshake.received;
      transit = transit;
    }
receiver_accepts id value false handshake transit =
    record {
      items = handshake.items;
      accepted = handshake.accepted ++ value ∷ [];
      received = λ other. (other == id) || handshake.received other;
      transit = transit;
    }

-- the receiver takes a packet: it accepts a PUBLISH, or forgets a PUBREL's identifier
abbrev pub receiver_takes : {V : Type 0} → Forward V → Handshake V → Transit V → Handshake V
receiver_takes (Forward.Publish id value) handshake transit =
    receiver_accepts id value (handshake.received id) handshake transit
receiver_takes (Forward.Pubrel id) handshake transit =
    record {
      items = handshake.items;
      accepted = handshake.accepted;
      received = λ other. not (other == id) && handshake.received other;
      transit = transit;
    }

-- the sender receives an answer
abbrev pub sender_hears : {V : Type 0} → Backward → List (SenderItem V) → List (SenderItem V)
sender_hears (Backward.Pubrec id) items = map (item_released id) items
sender_hears (Backward.Pubcomp id) items = map (finishing id) items

-- a handshake with these items and this connection in place of its own
abbrev pub with_items : {V : Type 0} → List (SenderItem V) → Transit V → Handshake V → Handshake V
with_items items transit handshake =
    record {
      items = items;
      accepted = handshake.accepted;
      received = handshake.received;
      transit = transit;
    }

-- what the sender sends on its connection, if the receiver may still take it
abbrev pub sender_sends : {V : Type 0} → Forward V → Transit V → Transit V
sender_sends packet (Transit.Joined forward backward) =
    Transit.Joined (forward ++ packet ∷ []) backward
sender_sends packet (Transit.Behind backward) = Transit.Behind backward
sender_sends packet (Transit.Ahead forward) = Transit.Ahead forward

-- the PUBLISH of an item that was sent
abbrev pub publishing : {V : Type 0} → ℕ × V → Forward V
publishing row = Forward.Publish row.0 row.1

-- what the sender sends on a new connection: PUBRELs, and each PUBLISH again (MQTT 4.4)
abbrev pub sender_resends : {V : Type 0} → List ℕ → List (SenderItem V) → List (Forward V)
sender_resends releases items = map (λ id. Forward.Pubrel id) releases
    ++ map publishing (sent items)
