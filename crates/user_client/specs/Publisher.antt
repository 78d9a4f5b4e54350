-- A client that publishes once.
use Rattle.std.specs.Prelude.{◌≡◌, ℕ, List, [], ◌∷◌, Option, Some, None}
use Rattle.std.specs.Io.KnownBytes.{Appends}
use Rattle.packet.specs.Spelling.{AppendsSpelling}
use Rattle.packet.specs.declared.delivery.Delivery.TheVariants as deliveries
use Rattle.packet.specs.declared.packet.Packet.TheVariants as packets
use Rattle.packet.specs.declared.publish.Publish.{Publish}
use Rattle.packet_base.specs.declared.qos.QoS.{QoS}
use Rattle.packet_base.specs.declared.qos.QoS.TheVariants as qos_levels
use Rattle.session_base.specs.declared.publication.Publication.{Publication}
use Rattle.client_base.specs.State.{ClientState, kept_count, new_client_state}
use Rattle.user_client.specs.Traces.{CallerView, new_called}

-- a client, and its publication if that has QoS 0: otherwise the client keeps it
pub record PublisherView : Type 0 where
  pub caller : CallerView
  pub once : Option Publish

-- a client that was never connected, and keeps just this publication, with identifier 1
abbrev pub client_keeping : List ℕ → Publication → ClientState
client_keeping id publication = record (new_client_state id 0) {
  queued = record { id = 1; publication = publication }
      ∷ [];
}

-- the PUBLISH of a publication at QoS 0
abbrev pub unkept : Publication → Publish
unkept publication =
    record {
      topic = publication.topic;
      delivery = deliveries.AtMostOnce;
      retain = publication.retain;
      payload = publication.payload;
    }

-- A new publisher has its publication and no other: at QoS 1 and 2 its client keeps it.
abbrev pub HasPublication : QoS → List ℕ → Publication → PublisherView → Type 0
HasPublication qos_levels.AtMostOnce id publication it =
    it ≡ record { caller = new_called id; once = Some (unkept publication) }
HasPublication qos_levels.AtLeastOnce id publication it =
    (it.caller.core.state ≡ client_keeping id publication) × (it.once ≡ None)
HasPublication qos_levels.ExactlyOnce id publication it =
    (it.caller.core.state ≡ client_keeping id publication) × (it.once ≡ None)

-- between these two states the stream took this PUBLISH at QoS 0 as a whole, after all that the
-- client had written before
pub record TakesPublish {D : Type 0} (contents : D → Option (List ℕ)) (publish : Publish)
    (old new : D) : Type 0 where
  pub before : List ℕ
  pub bytes : List ℕ
  pub spelled : AppendsSpelling before bytes
      (packets.Publish (record publish { delivery = deliveries.AtMostOnce }))
  pub taken : Appends (contents old) (contents new) bytes

-- this PUBLISH is the last that the stream took
abbrev pub WasTakenBy : {D : Type 0} → (D → Option (List ℕ)) → D → Publish → Type 0
WasTakenBy {D} contents stream publish = (old : D) × TakesPublish contents publish old stream

-- a stream of this type took this PUBLISH
abbrev pub WasTaken : {D : Type 0} → (D → Option (List ℕ)) → Publish → Type 0
WasTaken {D} contents publish = (stream : D) × WasTakenBy contents stream publish

-- the publication is acknowledged: the client keeps none, and one at QoS 0 was taken as a whole
abbrev pub IsAcknowledgedAs : (Publish → Type 0) → Option Publish → CallerView → Type 0
IsAcknowledgedAs taken None caller = kept_count caller.core.state ≡ 0
IsAcknowledgedAs taken (Some publish) caller = taken publish

-- the publication of a `PublisherView` is acknowledged
abbrev pub IsAcknowledged : {D : Type 0} → (D → Option (List ℕ)) → PublisherView → Type 0
IsAcknowledged contents publishing =
    IsAcknowledgedAs (WasTaken contents) publishing.once publishing.caller

-- the same; a publication at QoS 0 is the last that this stream took
abbrev pub IsAcknowledgedBy : {D : Type 0} → (D → Option (List ℕ)) → D → PublisherView → Type 0
IsAcknowledgedBy contents stream publishing =
    IsAcknowledgedAs (WasTakenBy contents stream) publishing.once publishing.caller
