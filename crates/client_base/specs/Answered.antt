-- The effect of a packet from the server on a client, and the packets that answer it (MQTT 3.2,
-- 4.3, 4.4).
use Rattle.std.specs.Prelude.{ℕ, Bool, false, not, ◌&&◌, ◌==◌, if◌then◌else◌, List, [], ◌∷◌, ◌++◌}
use Rattle.std.specs.Prelude.{filter, Option, Some, None}
use Rattle.std.specs.List.{list_any}
use Rattle.packet.specs.declared.delivery.Delivery.{Delivery}
use Rattle.packet.specs.declared.delivery.Delivery.TheVariants as deliveries
use Rattle.packet.specs.declared.publish.Publish.{Publish}
use Rattle.packet.specs.declared.packet.Packet.{Packet}
use Rattle.packet.specs.declared.packet.Packet.TheVariants as packets
use Rattle.packet.specs.Delivery.{delivery_qos}
use Rattle.session_base.specs.Publication.{is_qos1}
use Rattle.lists.specs.Lists.{has_id}
use Rattle.client_base.specs.declared.accepted.Accepted.{Accepted}
use Rattle.client_base.specs.declared.error.ClientError.{ClientError}
use Rattle.client_base.specs.declared.unacknowledged_publication.UnacknowledgedPublication.{UnacknowledgedPublication}
use Rattle.client_base.specs.declared.request.Request.{Request}
use Rattle.client_base.specs.declared.request.Request.TheVariants as requests
use Rattle.client_base.specs.State.{ClientState, lost}
use Rattle.session_base.specs.Identifiers.{without_id}

-- the state after a step, the packets that it writes, and the error, if there is one
pub record ClientOutcome : Type 0 where
  pub state : ClientState
  pub writes : List Packet
  pub refusal : Option ClientError

-- a step without an error
abbrev pub going_on : ClientState → List Packet → ClientOutcome
going_on state packets = record { state = state; writes = packets; refusal = None }

-- a step that ends the connection with this error
abbrev pub ending : ClientError → ClientState → ClientOutcome
ending cause state = record { state = lost state; writes = []; refusal = Some cause }

-- ---- publications of other clients

-- the accepted publication of a PUBLISH, in the session with this number
abbrev pub accepted_of : ℕ → Publish → Accepted
accepted_of session publish =
    record {
      session = session;
      qos = delivery_qos publish.delivery;
      retain = publish.retain;
      topic = publish.topic;
      payload = publish.payload;
    }

-- the publication is accepted in the current session
abbrev pub accepting : Publish → ClientState → ClientState
accepting publish state =
    record state { accepted = state.accepted ++ accepted_of state.session publish ∷ [] }

-- a publication at QoS 0 or 1 is accepted each time, one at QoS 2 unless its identifier is kept
-- (MQTT 4.3)
abbrev pub on_publish : Publish → Delivery → ClientState → ClientOutcome
on_publish publish deliveries.AtMostOnce state = going_on (accepting publish state) []
on_publish publish (deliveries.AtLeastOnce dup id) state =
    going_on (accepting publish state) (packets.Puback id ∷ [])
on_publish publish (deliveries.ExactlyOnce dup id) state =
    going_on
    (if has_id id state.received then state
    else record (accepting publish state) { received = state.received ++ id ∷ [] })
    (packets.Pubrec id ∷ [])

-- PUBREL: the identifier is dropped; PUBCOMP answers in any case (MQTT 4.3.3)
abbrev pub on_pubrel : ℕ → ClientState → ClientOutcome
on_pubrel id state =
    going_on (record state { received = without_id id state.received }) (packets.Pubcomp id ∷ [])

-- ---- its own publications

-- whether PUBACK with this identifier ends the publication
abbrev pub awaits_puback : ℕ → UnacknowledgedPublication → Bool
awaits_puback id kept = (id == kept.id) && is_qos1 kept.publication.qos

-- whether PUBREC with this identifier releases it
abbrev pub awaits_pubrec : ℕ → UnacknowledgedPublication → Bool
awaits_pubrec id kept = (id == kept.id) && not (is_qos1 kept.publication.qos)

-- PUBACK ends a sent QoS 1 publication (MQTT 4.3.2)
abbrev pub on_puback : ℕ → ClientState → ClientOutcome
on_puback id state =
    going_on (record state { sent = filter (λ kept. not (awaits_puback id kept)) state.sent }) []

-- PUBREC releases a sent QoS 2 publication; for a released one PUBREL is written again (MQTT 4.3.3)
abbrev pub on_pubrec : ℕ → ClientState → ClientOutcome
on_pubrec id state =
    if list_any (awaits_pubrec id) state.sent
    then going_on
    (record state {
      released = state.released ++ id ∷ [];
      sent = filter (λ kept. not (awaits_pubrec id kept)) state.sent;
    })
    (packets.Pubrel id ∷ [])
    else going_on state (if has_id id state.released then packets.Pubrel id ∷ [] else [])

-- PUBCOMP ends a released publication (MQTT 4.3.3)
abbrev pub on_pubcomp : ℕ → ClientState → ClientOutcome
on_pubcomp id state = going_on (record state { released = without_id id state.released }) []

-- ---- requests: each ends only at the acknowledgement of its own kind

-- whether SUBACK with this identifier answers the request
abbrev pub is_subscribe : ℕ → Request → Bool
is_subscribe id (requests.Subscribes other) = id == other
is_subscribe id (requests.Unsubscribes other) = false

-- whether UNSUBACK with this identifier answers it
abbrev pub is_unsubscribe : ℕ → Request → Bool
is_unsubscribe id (requests.Subscribes other) = false
is_unsubscribe id (requests.Unsubscribes other) = id == other

-- the acknowledged requests end, and nothing is written
abbrev pub answered : (Request → Bool) → ClientState → ClientOutcome
answered test state =
    going_on (record state { requests = filter (λ request. not (test request)) state.requests }) []
