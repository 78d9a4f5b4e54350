-- The keeper's step: a call of the client, or a packet from the server (MQTT 3, 4.3, 4.4).
use Rattle.std.specs.Prelude.{ℕ, not, if◌then◌else◌, List, [], ◌∷◌, ◌++◌, Option, Some, None}
use Rattle.packet_base.specs.declared.qos.QoS.{QoS}
use Rattle.packet.specs.declared.packet.Packet.{Packet}
use Rattle.packet.specs.declared.packet.Packet.TheVariants as packets
use Rattle.session_base.specs.declared.publication.Publication.{Publication}
use Rattle.client_base.specs.declared.error.ClientError.{ClientError}
use Rattle.client_base.specs.declared.error.ClientError.TheVariants as errors
use Rattle.client_base.specs.declared.request.Request.{Request}
use Rattle.client_base.specs.declared.request.Request.TheVariants as requests
use Rattle.client_base.specs.declared.stage.Stage.{Stage}
use Rattle.client_base.specs.declared.stage.Stage.TheVariants as stages
use Rattle.client_base.specs.State.{ClientState, is_online, lost}
use Rattle.client_base.specs.Answered.{ClientOutcome, going_on}
use Rattle.client_base.specs.Calls.{refused_call, opened, client_receives}
use Rattle.client_base.specs.Publications.{next_id, has_free_id, publish_refusal, published}

-- ---- requests (MQTT 3.8, 3.10)

-- the error of a request, if it is refused
abbrev pub request_refusal : ClientState → Option ClientError
request_refusal state =
    if not (is_online state.stage) then Some errors.NotActive else
    if not (has_free_id state) then Some errors.WindowFull else None

-- a request is written, and is in flight until its acknowledgement
abbrev pub asked : Request → Packet → ClientState → ClientOutcome
asked request packet state =
    going_on (record state { requests = state.requests ++ request ∷ [] }) (packet ∷ [])

-- a SUBSCRIBE to one filter
abbrev pub subscribed : List ℕ → QoS → ClientState → ClientOutcome
subscribed filter qos state =
    asked (requests.Subscribes (next_id state))
    (packets.Subscribe
    (record { id = next_id state; filters = record { filter = filter; qos = qos } ∷ [] })) state

-- an UNSUBSCRIBE from one filter
abbrev pub unsubscribed : List ℕ → ClientState → ClientOutcome
unsubscribed filter state =
    asked (requests.Unsubscribes (next_id state))
    (packets.Unsubscribe (record { id = next_id state; filters = filter ∷ [] })) state

-- ---- the end of a connection

-- DISCONNECT is written if the client is online (MQTT 3.14)
abbrev pub disconnected : Stage → ClientState → ClientOutcome
disconnected stages.Closed state = refused_call errors.NotActive state
disconnected stages.Opened state = going_on (lost state) []
disconnected stages.Online state = going_on (lost state) (packets.Disconnect ∷ [])

-- ---- the step

-- the calls of a client, and what happens to it
pub data Call : Type 0 where
  Opens : Call  -- a connection is opened, on which it writes CONNECT
  Publishes : (publication : Publication) → Call  -- it is to publish this
  Subscribes : (filter : List ℕ) → (qos : QoS) → Call  -- it is to subscribe
  Unsubscribes : (filter : List ℕ) → Call  -- it is to unsubscribe
  Receives : (packet : Packet) → Call  -- a whole packet of the server
  Loses : Call  -- its connection is lost
  Disconnects : Call  -- it is to end its connection

-- the step, unless it is refused with an error
abbrev pub unless_refused : Option ClientError → ClientOutcome → ClientState → ClientOutcome
unless_refused (Some cause) outcome state = refused_call cause state
unless_refused None outcome state = outcome

-- the step of each call
abbrev pub keeper_step : Call → ClientState → ClientOutcome
keeper_step Call.Opens state = opened state
keeper_step (Call.Publishes publication) state =
    unless_refused (publish_refusal publication state) (published publication state) state
keeper_step (Call.Subscribes filter qos) state =
    unless_refused (request_refusal state) (subscribed filter qos state) state
keeper_step (Call.Unsubscribes filter) state =
    unless_refused (request_refusal state) (unsubscribed filter state) state
keeper_step (Call.Receives packet) state = client_receives packet state.stage state
keeper_step Call.Loses state = going_on (lost state) []
keeper_step Call.Disconnects state = disconnected state.stage state

-- the state after these calls, the oldest first
abbrev pub state_after : List Call → ClientState → ClientState
state_after [] state = state
state_after (call ∷ calls) state = state_after calls (keeper_step call state).state
