-- The steps of a QoS 2 handshake, one or several, and how it begins (MQTT 4.3.3).
use Rattle.std.specs.Prelude.{◌≡◌, ℕ, true, false, List, [], ◌∷◌, ◌++◌, Some}
use Rattle.lists.specs.Lists.{has_id, IsDistinct, Each}
use Rattle.exactly_once.specs.Items.{SenderItem, busy, has_released, start_first, first_waiting}
use Rattle.exactly_once.specs.Handshake.{Forward, Backward, Transit, Handshake, answer, reply, receiver_takes, sender_hears, with_items, sender_sends, sender_resends}

-- one step of a handshake; the sender assigns the Packet Identifiers
pub data HandshakeStep {V : Type 0} (handshake : Handshake V) : Handshake V → Type 0 where
  -- the sender queues another publication
  adds : (value : V) → HandshakeStep handshake
      (with_items (handshake.items ++ SenderItem.Queued value ∷ []) handshake.transit handshake)
  -- the first queued publication gets a free identifier, and its PUBLISH is sent (MQTT 4.3.3)
  starts : (id : ℕ) (value : V) → has_id id (busy handshake.items) ≡ false →
      first_waiting handshake.items ≡ Some value →
      HandshakeStep handshake (with_items (start_first id handshake.items)
      (sender_sends (Forward.Publish id value) handshake.transit) handshake)
  -- the receiver takes the next packet and answers it
  takes : (packet : Forward V) (forward : List (Forward V)) (backward : List Backward) →
      handshake.transit ≡ Transit.Joined (packet ∷ forward) backward →
      HandshakeStep handshake (receiver_takes packet handshake
      (Transit.Joined forward (backward ++ answer packet ∷ [])))
  -- the receiver takes the next packet after the sender left: its answer goes to nobody
  takes_alone : (packet : Forward V) (forward : List (Forward V)) →
      handshake.transit ≡ Transit.Ahead (packet ∷ forward) →
      HandshakeStep handshake (receiver_takes packet handshake (Transit.Ahead forward))
  -- the sender receives an answer: after PUBREC it sends PUBREL
  hears : (packet : Backward) (forward : List (Forward V)) (backward : List Backward) →
      handshake.transit ≡ Transit.Joined forward (packet ∷ backward) →
      HandshakeStep handshake (with_items (sender_hears packet handshake.items)
      (Transit.Joined (forward ++ reply packet) backward) handshake)
  -- the sender receives an answer after the receiver left: no PUBREL is sent
  hears_alone : (packet : Backward) (backward : List Backward) →
      handshake.transit ≡ Transit.Behind (packet ∷ backward) →
      HandshakeStep handshake (with_items (sender_hears packet handshake.items)
      (Transit.Behind backward) handshake)
  -- the sender leaves: the receiver may still take what is in transit, and no answer comes
  sender_leaves : (forward : List (Forward V)) (backward : List Backward) →
      handshake.transit ≡ Transit.Joined forward backward →
      HandshakeStep handshake (with_items handshake.items (Transit.Ahead forward) handshake)
  -- the receiver leaves: it takes no more, and answers in transit may still arrive
  receiver_leaves : (forward : List (Forward V)) (backward : List Backward) →
      handshake.transit ≡ Transit.Joined forward backward →
      HandshakeStep handshake (with_items handshake.items (Transit.Behind backward) handshake)
  -- everything in transit is lost, and the receiver counts as the one that left
  parts : HandshakeStep handshake (with_items handshake.items (Transit.Behind []) handshake)
  -- everything in transit is lost, and the sender counts as the one that left
  parts_ahead : HandshakeStep handshake (with_items handshake.items (Transit.Ahead []) handshake)
  -- on a new connection the sender retransmits PUBRELs, and each PUBLISH without PUBREC (MQTT 4.4)
  restarts : (releases : List ℕ) → IsDistinct releases →
      Each (λ id. has_released id handshake.items ≡ true) releases →
      HandshakeStep handshake (with_items handshake.items
      (Transit.Joined (sender_resends releases handshake.items) []) handshake)

-- steps one after another
pub data HandshakeTrace {V : Type 0} (handshake : Handshake V) : Handshake V → Type 0 where
  -- no step
  stays : HandshakeTrace handshake handshake
  -- one more step
  goes_on : {next last : Handshake V} → HandshakeTrace handshake next → HandshakeStep next last →
      HandshakeTrace handshake last

-- nothing was sent yet, and there is no connection
abbrev pub opening_handshake : (V : Type 0) → Handshake V
opening_handshake V = record {
  items = [];
  accepted = [];
  received = λ id. false;
  transit = Transit.Behind [];
}
