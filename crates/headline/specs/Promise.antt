-- The promise to one client, by the publications that it was asked for, the list on which the nodes
-- agree, and what it shows.
--
-- It names no node, message or pipe: a user can check it by the list, the calls that the client was
-- given and what it reports. It is stated place by place, since only places tell two publications
-- with equal content apart. It holds at every time and not only at the end: what is new is in
-- order, what is accepted is a prefix, and what is answered is already there. Being in step is the
-- one condition on a client with several sessions; a client that no Expel names is always in step.
use Rattle.std.specs.Prelude.{◌≡◌, ◌≤◌, ℕ, if◌then◌else◌, List, ◌∷◌, ◌++◌, filter, length, map}
use Rattle.lists.specs.Lists.{In, IsPrefixOf}
use Rattle.packet.specs.declared.packet.Packet.TheVariants as packets
use Rattle.packet.specs.declared.publish.Publish.{Publish}
use Rattle.session_base.specs.Publication.{publication_of}
use Rattle.session_base.specs.declared.publication.Publication.{Publication}
use Rattle.broker_spec.specs.declared.command.Command.{Command}
use Rattle.broker_spec.specs.declared.command.Command.TheVariants as commands
use Rattle.broker_spec.specs.Commands.{past_of, usual_limits}
use Rattle.broker_spec.specs.Connection.{ConnectionName}
use Rattle.broker_spec.specs.EndingTheorems.{EndsWithTheSession, StandsAt, connects_of}
use Rattle.broker_spec.specs.OriginTheorems.{is_from_publish}
use Rattle.broker_spec.specs.Place.{Client, Mark, Past, Place}
use Rattle.broker_spec.specs.Readings.{publication_in}
use Rattle.broker_spec.specs.Subscriptions.{effective_qos}
use Rattle.broker_spec.specs.TakenTheorems.{queued_at, takes_publication}
use Rattle.broker_spec.specs.Times.{entries_of}
use Rattle.client_base.specs.State.{ClientState}
use Rattle.exactly_once.specs.InStep.{AreWelcome, IsFirstSession, sessions_begun}
use Rattle.exactly_once.specs.Sides.{ClientConnection}
use Rattle.headline.specs.Shown.{AcceptsInSessionOrder, AreNewInOrder, AreUnacknowledged, IsAnswered, at_qos2, new_of, unacknowledged_of}

-- the promise to a client that is in step, by the places of the list
pub record PromiseInStep (client : Client) (published : List Publication) (past : Past)
    (state : ClientState) : Type 0 where
  -- its QoS 2 publications are new in the order in which it was asked for them, each once
  pub rises : AreNewInOrder published (new_of client past)
  -- none is left out while it has had one session
  pub in_order : sessions_begun past client ≤ 1 →
      IsPrefixOf (new_of client past) (at_qos2 published)
  -- while its first session lasts, those that are not new yet are unacknowledged
  pub unacknowledged : IsFirstSession past client →
      AreUnacknowledged (at_qos2 published) (new_of client past) (at_qos2 (unacknowledged_of state))
  -- one that is answered with PUBREC is new at that place or at an earlier one
  pub answered : (place : Place) (below : Past) (publish : Publish) (packet_id : ℕ) →
      IsAnswered past client (packets.Pubrec packet_id) place below publish →
      In (publication_of publish) (new_of client (place ∷ below))
  -- one that is answered with PUBACK is one that it was asked for, and is taken at that place
  pub acknowledged : (place : Place) (below : Past) (publish : Publish) (packet_id : ℕ) →
      IsAnswered past client (packets.Puback packet_id) place below publish →
      In (publication_of publish) published × (place.mark ≡ Mark.Taken client)
  -- in each of its sessions it accepted at QoS 2 a prefix of the QoS 2 entries, each once, with
  -- every one that is released
  pub accepts : AcceptsInSessionOrder client past state

-- the promise to a client, with its connections, the newest first
pub record PromiseBy (client : Client) (connections : List ClientConnection)
    (published : List Publication) (past : Past) (state : ClientState) : Type 0 where
  -- in step: a connection that began a session after the first was confirmed before it opened
  -- another one
  pub in_step : AreWelcome past client connections → PromiseInStep client published past state
  -- when one of its publications is taken, it enters exactly the sessions with an effective QoS
  -- over 0, once, as it was published
  pub enters : (place : Place) (below : Past) (connection : ConnectionName) (publish : Publish)
      (receiver : Client) → StandsAt past place below →
      place.command ≡ commands.Packet connection (packets.Publish publish) →
      place.mark ≡ Mark.Taken client →
      map publication_in
      (filter (is_from_publish (length below)) (entries_of usual_limits (place ∷ below) receiver))
      ≡ queued_at (publication_of publish) (effective_qos below receiver (publication_of publish))
  -- at no time has a session more than one entry from a place, and it has none from a place that
  -- takes no publication
  pub once : (later earlier : Past) (place : Place) (below : Past) (receiver : Client) →
      past ≡ later ++ earlier → StandsAt earlier place below →
      length (filter (is_from_publish (length below)) (entries_of usual_limits earlier receiver))
      ≤ (if takes_publication place.command place.mark then 1 else 0)
  -- an ended session gets nothing more, since each connection has a name of its own
  pub names : (connection : ConnectionName) → connects_of connection past ≤ 1
  pub ended : EndsWithTheSession usual_limits past

-- the promise by the list of commands on which the nodes agree
abbrev pub Promise : List ClientConnection → List Publication → List Command → ClientState → Type 0
Promise connections published agreed state =
    PromiseBy state.client connections published (past_of usual_limits agreed) state
