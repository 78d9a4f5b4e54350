-- A story as the handshake in which the client publishes, and when one handshake refines another.
use Rattle.std.specs.Prelude.{◌≡◌, ℕ, Bool, false, if◌then◌else◌, List, [], ◌∷◌, drop, Option, Some, None}
use Rattle.packet.specs.declared.delivery.Delivery.{Delivery}
use Rattle.packet.specs.declared.delivery.Delivery.TheVariants as deliveries
use Rattle.packet.specs.declared.packet.Packet.{Packet}
use Rattle.packet.specs.declared.packet.Packet.TheVariants as packets
use Rattle.session_base.specs.declared.publication.Publication.{Publication}
use Rattle.lists.specs.Lists.{has_id}
use Rattle.broker_spec.specs.Connection.{ConnectionName, same_connection}
use Rattle.broker_spec.specs.Place.{Past, Limits}
use Rattle.broker_spec.specs.Sessions.{current_connection}
use Rattle.broker_spec.specs.Received.{received_of}
use Rattle.exactly_once.specs.Items.{SenderItem}
use Rattle.exactly_once.specs.Handshake.{Forward, Backward, Transit, Handshake}
use Rattle.exactly_once.specs.HandshakeSteps.{HandshakeTrace}
use Rattle.exactly_once.specs.Sends.{put_to}
use Rattle.client_base.specs.Keeper.{Own, Written}
use Rattle.exactly_once.specs.Sides.{ClientConnection}
use Rattle.exactly_once.specs.Story.{Story}
use Rattle.exactly_once.specs.Carried.{is_qos2, new_numbers}

-- ---- what is in transit on a connection, and whether the broker has it as current

-- on a connection: what the client did not handle yet, and what is not taken yet
abbrev pub to_come : Limits → Past → ClientConnection → List Packet
to_come limits past connection = drop connection.handled (put_to limits past connection.name)

-- what the client wrote on a connection and the list does not have yet
abbrev pub to_be_taken : ClientConnection → List Written
to_be_taken connection = drop connection.taken connection.written

-- whether this connection is the current one of its client
abbrev pub is_current : Option ConnectionName → ConnectionName → Bool
is_current (Some current) name = same_connection current name
is_current None name = false

-- ---- the client as a publisher: the broker accepts the numbers of its publications as new

-- the item before these, if its publication has QoS 2
abbrev pub own_item : Publication → SenderItem ℕ → List (SenderItem ℕ) → List (SenderItem ℕ)
own_item publication item items = if is_qos2 publication.qos then item ∷ items else items

-- the client's QoS 2 publications, as items of the handshake
abbrev pub items_of_own : List Own → List (SenderItem ℕ)
items_of_own (Own.Queued number publication id ∷ own) =
    own_item publication (SenderItem.Queued number) (items_of_own own)
items_of_own (Own.Sent number publication id ∷ own) =
    own_item publication (SenderItem.Sent number id) (items_of_own own)
items_of_own (Own.Released number publication id ∷ own) =
    own_item publication (SenderItem.Released number id) (items_of_own own)
items_of_own (Own.Done number publication ∷ own) =
    own_item publication (SenderItem.Done number) (items_of_own own)
items_of_own [] = []

-- the PUBLISH before these packets, if it has QoS 2 and a number
abbrev pub carried_by : Delivery → Option ℕ → List (Forward ℕ) → List (Forward ℕ)
carried_by (deliveries.ExactlyOnce dup id) (Some number) more = Forward.Publish id number ∷ more
carried_by _ _ more = more

-- a written packet before these, if it belongs to the handshake
abbrev pub forward_of_one : Packet → Option ℕ → List (Forward ℕ) → List (Forward ℕ)
forward_of_one (packets.Publish publish) number more = carried_by publish.delivery number more
forward_of_one (packets.Pubrel id) number more = Forward.Pubrel id ∷ more
forward_of_one _ number more = more

-- the part of what the client wrote that belongs to the handshake
abbrev pub forward_of_own : List Written → List (Forward ℕ)
forward_of_own (written ∷ more) = forward_of_one written.packet written.number (forward_of_own more)
forward_of_own [] = []

-- the part of the broker's answers that belongs to the handshake
abbrev pub backward_of_own : List Packet → List Backward
backward_of_own (packets.Pubrec id ∷ more) = Backward.Pubrec id ∷ backward_of_own more
backward_of_own (packets.Pubcomp id ∷ more) = Backward.Pubcomp id ∷ backward_of_own more
backward_of_own (_ ∷ more) = backward_of_own more
backward_of_own [] = []

-- the last connection on which a CONNACK 0 came
abbrev pub last_confirmed : List ClientConnection → Option ClientConnection
last_confirmed (connection ∷ connections) =
    if connection.confirmed then Some connection else last_confirmed connections
last_confirmed [] = None

-- what is in transit, by the last connection on which a CONNACK 0 came
abbrev pub transit_of_own : Limits → Past → Option ConnectionName → Bool → Option ClientConnection →
    Transit ℕ
transit_of_own limits past current online (Some connection) =
    if is_current current connection.name
    then (if online
    then Transit.Joined (forward_of_own (to_be_taken connection))
    (backward_of_own (to_come limits past connection))
    else Transit.Ahead (forward_of_own (to_be_taken connection)))
    else (if online then Transit.Behind (backward_of_own (to_come limits past connection))
    else Transit.Behind [])
transit_of_own limits past current online None = Transit.Behind []

-- the client sends, the broker accepts
abbrev pub as_publisher : Limits → Story → Handshake ℕ
as_publisher limits story =
    record {
      items = items_of_own story.keeper.own;
      accepted = new_numbers story.connections story.past;
      received = λ id. has_id id (received_of story.past story.keeper.client);
      transit = transit_of_own limits story.past (current_connection story.past story.keeper.client)
          story.keeper.is_online (last_confirmed story.connections);
    }

-- two handshakes that do not differ in any relevant part
pub record IsLike {A : Type 0} (handshake other : Handshake A) : Type 0 where
  pub items : handshake.items ≡ other.items
  pub accepted : handshake.accepted ≡ other.accepted
  pub received : (id : ℕ) → handshake.received id ≡ other.received id
  pub transit : handshake.transit ≡ other.transit

-- a run of the first handshake ends in the second, apart from what is not relevant
pub record GoesTo {A : Type 0} (before after : Handshake A) : Type 0 where
  pub between : Handshake A
  pub run : HandshakeTrace before between
  pub like : IsLike between after
