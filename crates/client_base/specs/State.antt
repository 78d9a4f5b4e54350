-- The state of a client, across connections (MQTT 4.1, 4.3, 4.4).
-- The unfinished publications are three lists by state: released, of which only the identifiers are
-- left, sent, and queued; a done one is in none. They, the received identifiers and the accepted
-- publications outlive a connection; requests end with theirs. A CONNACK 0 without Session Present,
-- to a client that had a session, drops what was kept and begins the next session, so an accepted
-- publication says in which session it came. Publications and requests take identifiers from one
-- pool.
use Rattle.std.specs.Prelude.{ℕ, ◌+◌, Bool, true, false, List, [], ◌++◌, length, map}
use Rattle.packet.specs.declared.packet.Packet.{Packet}
use Rattle.packet.specs.declared.packet.Packet.TheVariants as packets
use Rattle.session_base.specs.Publication.{publish_for}
use Rattle.client_base.specs.declared.accepted.Accepted.{Accepted}
use Rattle.client_base.specs.declared.unacknowledged_publication.UnacknowledgedPublication.{UnacknowledgedPublication}
use Rattle.client_base.specs.declared.request.Request.{Request}
use Rattle.client_base.specs.declared.request.Request.TheVariants as requests
use Rattle.client_base.specs.declared.stage.Stage.{Stage}
use Rattle.client_base.specs.declared.stage.Stage.TheVariants as stages

-- A client between two calls. Its kept publications are the released, the sent and the queued ones,
-- in this order.
pub record ClientState : Type 0 where
  pub client : List ℕ  -- its Client Identifier
  pub keep_alive : ℕ  -- in seconds
  pub released : List ℕ  -- identifiers of those that had their PUBREC, in the order of these
  pub sent : List UnacknowledgedPublication  -- in the order of their calls, as the next ones
  pub queued : List UnacknowledgedPublication  -- published while it was offline
  pub received : List ℕ  -- of QoS 2 publications that it accepted and has no PUBREL for
  pub requests : List Request  -- not answered yet
  pub stage : Stage
  pub session : ℕ  -- its number, 0 before the first CONNACK 0
  pub session_present : Bool  -- of the last CONNACK 0 (MQTT 3.2.2.2)
  pub accepted : List Accepted  -- not taken out yet

-- a client that was never connected
abbrev pub new_client_state : List ℕ → ℕ → ClientState
new_client_state client keep_alive =
    record {
      client = client;
      keep_alive = keep_alive;
      released = [];
      sent = [];
      queued = [];
      received = [];
      requests = [];
      stage = stages.Closed;
      session = 0;
      session_present = false;
      accepted = [];
    }

-- whether there is a connection
abbrev pub is_open : Stage → Bool
is_open stages.Closed = false
is_open stages.Opened = true
is_open stages.Online = true

-- whether the server has accepted it
abbrev pub is_online : Stage → Bool
is_online stages.Closed = false
is_online stages.Opened = false
is_online stages.Online = true

-- how many publications a client keeps
abbrev pub kept_count : ClientState → ℕ
kept_count state = length state.released + length state.sent + length state.queued

-- ---- identifiers (MQTT 2.3.1)

-- the identifier of a request
abbrev pub id_of_request : Request → ℕ
id_of_request (requests.Subscribes id) = id
id_of_request (requests.Unsubscribes id) = id

-- the identifiers of kept publications
abbrev pub ids_of_kept : List UnacknowledgedPublication → List ℕ
ids_of_kept = map (λ kept. kept.id)

-- the identifiers of a client's publications
abbrev pub publication_ids : ClientState → List ℕ
publication_ids state = state.released ++ ids_of_kept state.sent ++ ids_of_kept state.queued

-- the identifiers of a client's requests
abbrev pub request_ids : ClientState → List ℕ
request_ids state = map id_of_request state.requests

-- all identifiers that a client uses: publications and requests use one pool
abbrev pub used_ids : ClientState → List ℕ
used_ids state = publication_ids state ++ request_ids state

-- ---- what is sent after a CONNACK 0 (MQTT 4.4)

-- the PUBLISH of a kept publication, with this DUP
abbrev pub publish_kept : Bool → UnacknowledgedPublication → Packet
publish_kept dup kept = packets.Publish (publish_for dup kept.id kept.publication)

-- after a CONNACK 0: PUBREL for each released publication, PUBLISH with DUP 1 for each sent one,
-- then the queued ones with DUP 0
abbrev pub resent : ClientState → List Packet
resent state =
    map packets.Pubrel state.released
    ++ map (publish_kept true) state.sent
    ++ map (publish_kept false) state.queued

-- ---- the end of a connection

-- the connection ends: requests are dropped, the rest stays
abbrev pub lost : ClientState → ClientState
lost state = record state { requests = []; stage = stages.Closed }
