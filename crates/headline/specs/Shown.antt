-- What is seen of one client: what it keeps and what it accepted, and its places in the list on
-- which the nodes agree.
use Rattle.std.specs.Prelude.{◌≡◌, ◌&&◌, ℕ, Bool, false, if◌then◌else◌, List, [], ◌∷◌, ◌++◌, Some, filter, map, slice_get}
use Rattle.std.specs.List.{flat_map}
use Rattle.lists.specs.Lists.{Each, In}
use Rattle.packet.specs.declared.packet.Packet.{Packet}
use Rattle.packet.specs.declared.packet.Packet.TheVariants as packets
use Rattle.packet.specs.declared.publish.Publish.{Publish}
use Rattle.session_base.specs.Publication.{publication_of}
use Rattle.session_base.specs.declared.publication.Publication.{Publication}
use Rattle.broker_spec.specs.AnswersInOrder.{answers_at}
use Rattle.broker_spec.specs.declared.command.Command.{Command}
use Rattle.broker_spec.specs.declared.command.Command.TheVariants as commands
use Rattle.broker_spec.specs.Commands.{usual_limits}
use Rattle.broker_spec.specs.Connection.{ConnectionName}
use Rattle.broker_spec.specs.EndingTheorems.{StandsAt}
use Rattle.broker_spec.specs.Entries.{Entry}
use Rattle.broker_spec.specs.declared.command.Output.TheVariants.{Send}
use Rattle.broker_spec.specs.Owner.{owner_of}
use Rattle.broker_spec.specs.Place.{Client, Mark, Past, Place, same_client}
use Rattle.broker_spec.specs.Readings.{publication_in}
use Rattle.broker_spec.specs.Received.{is_exactly_once}
use Rattle.client_base.specs.State.{ClientState}
use Rattle.client_base.specs.declared.unacknowledged_publication.UnacknowledgedPublication.{UnacknowledgedPublication}
use Rattle.exactly_once.specs.Carried.{is_qos2}
use Rattle.exactly_once.specs.Acceptance.{is_entry_released, qos2_entries}
use Rattle.exactly_once.specs.InStep.{entries_in, starts_of}
use Rattle.exactly_once.specs.Lives.{NumbersRise}
use Rattle.headline.specs.byte_world.Accepted.{accepted_at_qos2}

-- ---- of its publications

-- whether a publication has QoS 2
abbrev pub is_at_qos2 : Publication → Bool
is_at_qos2 publication = is_qos2 publication.qos

-- the publications at QoS 2
abbrev pub at_qos2 : List Publication → List Publication
at_qos2 = filter is_at_qos2

-- the client's publications for which no PUBACK or PUBREC came yet, the oldest first
abbrev pub unacknowledged_of : ClientState → List Publication
unacknowledged_of state =
    map (λ (kept : UnacknowledgedPublication). kept.publication) (state.sent ++ state.queued)

-- the publication that is new at a place, if there is one (MQTT 4.3.3)
abbrev pub new_at : Client → Command → Mark → List Publication
new_at client (commands.Packet connection (packets.Publish publish)) (Mark.Taken taken_from) =
    if same_client taken_from client && is_exactly_once publish.delivery
    then publication_of publish ∷ [] else []
new_at client command mark = []

-- the client's publications that are new in the list, by place
abbrev pub new_of : Client → Past → List Publication
new_of client (place ∷ below) = new_of client below ++ new_at client place.command place.mark
new_of client [] = []

-- a place has a PUBLISH on its current connection, which is answered with this packet
pub record IsAnswered (past : Past) (client : Client) (packet : Packet) (place : Place)
    (below : Past) (publish : Publish) : Type 0 where
  pub stands : StandsAt past place below
  pub on : ConnectionName
  pub own : owner_of below on ≡ Some client
  pub command : place.command ≡ commands.Packet on (packets.Publish publish)
  pub answer : In (Send on packet) (answers_at usual_limits place below)

-- new ones are in the order in which the client published them, each once: their numbers rise
pub record AreNewInOrder (published new : List Publication) : Type 0 where
  pub numbers : List ℕ
  pub rise : NumbersRise numbers
  pub are : map (slice_get published) numbers ≡ map (λ (one : Publication). Some one) new

-- no publication is skipped: those that are not yet new are unacknowledged, and besides them only
-- some that are new
pub record AreUnacknowledged (published new unacknowledged : List Publication) : Type 0 where
  pub waiting : List Publication
  pub published_are : published ≡ new ++ waiting
  pub again : List Publication
  pub unacknowledged_are : unacknowledged ≡ again ++ waiting

-- ---- of what it accepted

-- A prefix of a session's QoS 2 entries, in order, each once, and the others. None of the others is
-- released.
pub record HasPrefix (client : Client) (past : Past) (start : ℕ) : Type 0 where
  pub prefix : List Entry
  pub others : List Entry
  pub entries : qos2_entries (entries_in usual_limits past client start) ≡ prefix ++ others
  pub rest : Each (λ (entry : Entry). is_entry_released entry ≡ false) others

-- What the client accepted at QoS 2 is, session after session, a prefix of the QoS 2 entries of
-- each, by the place at which it began.
pub record AcceptsInSessionOrder (client : Client) (past : Past) (state : ClientState) :
    Type 0 where
  pub session : (start : ℕ) → HasPrefix client past start
  pub accepted : accepted_at_qos2 state.accepted
      ≡ flat_map (λ start. map publication_in (session start).prefix) (starts_of past client)
