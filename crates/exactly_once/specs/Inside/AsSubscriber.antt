-- A story as the handshake in which the broker sends entries and the client accepts them.
use Rattle.std.specs.Prelude.{ℕ, zero, suc, if◌then◌else◌, List, [], ◌∷◌, Option, Some, None}
use Rattle.packet.specs.declared.delivery.Delivery.{Delivery}
use Rattle.packet.specs.declared.delivery.Delivery.TheVariants as deliveries
use Rattle.packet.specs.declared.packet.Packet.{Packet}
use Rattle.packet.specs.declared.packet.Packet.TheVariants as packets
use Rattle.session_base.specs.declared.publication.Publication.{Publication}
use Rattle.session_base.specs.Publication.{publication_of}
use Rattle.lists.specs.Lists.{has_id}
use Rattle.broker_spec.specs.Connection.{ConnectionName, same_connection}
use Rattle.broker_spec.specs.Place.{Past, Limits}
use Rattle.broker_spec.specs.Sessions.{current_connection}
use Rattle.broker_spec.specs.Entries.{Entry}
use Rattle.broker_spec.specs.Times.{entries_of}
use Rattle.exactly_once.specs.Items.{SenderItem}
use Rattle.exactly_once.specs.Handshake.{Forward, Backward, Transit, Handshake}
use Rattle.client_base.specs.Keeper.{Written, Keeper}
use Rattle.exactly_once.specs.Sides.{ClientConnection}
use Rattle.exactly_once.specs.Story.{Story}
use Rattle.exactly_once.specs.Carried.{is_qos2}
use Rattle.exactly_once.specs.Acceptance.{accepted_on}
use Rattle.exactly_once.specs.Inside.Projections.{to_come, to_be_taken, is_current}

-- the item before these, if its publication has QoS 2
abbrev pub two_item : Publication → SenderItem Publication → List (SenderItem Publication) →
    List (SenderItem Publication)
two_item publication item items = if is_qos2 publication.qos then item ∷ items else items

-- the QoS 2 entries of a session, as items of the handshake
abbrev pub items_of_entries : List Entry → List (SenderItem Publication)
items_of_entries (Entry.Queued made publication ∷ entries) =
    two_item publication (SenderItem.Queued publication) (items_of_entries entries)
items_of_entries (Entry.Sent made publication id start ∷ entries) =
    two_item publication (SenderItem.Sent publication id) (items_of_entries entries)
items_of_entries (Entry.Released made publication id start release ∷ entries) =
    two_item publication (SenderItem.Released publication id) (items_of_entries entries)
items_of_entries (Entry.Done made publication id start release finish ∷ entries) =
    two_item publication (SenderItem.Done publication) (items_of_entries entries)
items_of_entries [] = []

-- the PUBLISH before these packets, if it has QoS 2
abbrev pub publish_before : Delivery → Publication → List (Forward Publication) →
    List (Forward Publication)
publish_before (deliveries.ExactlyOnce dup id) publication more =
    Forward.Publish id publication ∷ more
publish_before _ publication more = more

-- the part of the broker's packets that belongs to the handshake
abbrev pub forward_of : List Packet → List (Forward Publication)
forward_of (packets.Publish publish ∷ more) =
    publish_before publish.delivery (publication_of publish) (forward_of more)
forward_of (packets.Pubrel id ∷ more) = Forward.Pubrel id ∷ forward_of more
forward_of (_ ∷ more) = forward_of more
forward_of [] = []

-- the part of the client's packets that belongs to the handshake
abbrev pub backward_of : List Written → List Backward
backward_of (written ∷ more) = by written.packet (backward_of more)
  where
    by : Packet → List Backward → List Backward
    by (packets.Pubrec id) rest = Backward.Pubrec id ∷ rest
    by (packets.Pubcomp id) rest = Backward.Pubcomp id ∷ rest
    by _ rest = rest
backward_of [] = []

-- the connection, if the list has its Connect
abbrev pub if_taken : ℕ → ClientConnection → Option ClientConnection
if_taken zero connection = None
if_taken (suc more) connection = Some connection

-- the connection that the client holds, if the list has its Connect
abbrev pub held : Keeper → List ClientConnection → Option ClientConnection
held keeper (connection ∷ connections) =
    if keeper.is_open then if_taken connection.taken connection else None
held keeper [] = None

-- what may still come to the broker on its connection
abbrev pub left_behind : Option ConnectionName → List ClientConnection → List Backward
left_behind (Some current) (connection ∷ connections) =
    if same_connection current connection.name then backward_of (to_be_taken connection)
    else left_behind (Some current) connections
left_behind _ _ = []

-- what is in transit: both ways if the client's connection is current, otherwise one way
abbrev pub transit_to : Limits → Past → Option ConnectionName → List ClientConnection →
    Option ClientConnection → Transit Publication
transit_to limits past current connections (Some connection) =
    if is_current current connection.name
    then Transit.Joined (forward_of (to_come limits past connection))
    (backward_of (to_be_taken connection))
    else Transit.Ahead (forward_of (to_come limits past connection))
transit_to limits past current connections None = Transit.Behind (left_behind current connections)

-- the broker sends, the client accepts
abbrev pub as_subscriber : Limits → Story → Handshake Publication
as_subscriber limits story =
    record {
      items = items_of_entries (entries_of limits story.past story.keeper.client);
      accepted = accepted_on story.connections;
      received = λ id. has_id id story.keeper.received;
      transit = transit_to limits story.past
          (current_connection story.past story.keeper.client) story.connections
          (held story.keeper story.connections);
    }
