-- Steps about one client's session, and their answers (MQTT 4.1, 4.3, 4.4, 4.6).
use Rattle.std.specs.Prelude.{◌≡◌, ℕ, true, List, [], ◌∷◌, length, map, codes, Some, None}
use Rattle.rows.specs.Fields.{Text, number_of}
use Rattle.rows.specs.Playing.{Answers, Agrees}
use Rattle.rows.specs.Answers.{counted, word, yes_or_no}
use Rattle.rows.specs.declared.line.Line.{Line}
use Rattle.lists.specs.Lists.{has_id}
use Rattle.packet_base.specs.declared.qos.QoS.{QoS}
use Rattle.session_base.specs.Identifiers.{with_id, without_id}
use Rattle.session_base.specs.Subscriptions.{is_subscribed, with_subscription, without_filter, granted_qos}
use Rattle.session_base.specs.Queue.{enqueue, filled, on_puback, on_pubrec, on_pubcomp, room}
use Rattle.session_base.specs.EntryPackets.{pubrec_sends, resend}
use Rattle.session_base.specs.Session.{SessionState, empty_session, max_entries, with_flights, with_granted, with_queue, with_received}
use Rattle.session_base.specs.SessionForm.{state_at}
use Rattle.session.specs.declared.session.TheConstants.{WINDOW}
use Rattle.broker_rows.specs.Values.{qos_text, packet_fields}
use Rattle.broker_rows.specs.SessionValues.{granted_fields, publication_of, sent_within, thawed}
use Rattle.broker_rows.specs.declared.session_steps.Client.{Client}

-- a step, its answers, and the session before and after it
pub data SessionStep (old : SessionState) (step : List Text) (answers : Answers)
    (new : SessionState) : Type 0 where
  -- `queue "t/1" 1 "x"`
  queue : (topic payload : Text) (qos : QoS)
      → step ≡ codes "queue" ∷ topic ∷ qos_text qos ∷ payload ∷ [] → answers ≡ []
      → new ≡ with_queue (enqueue (publication_of topic qos payload) old.queue) old
      → SessionStep old step answers new
  -- `send`: with the window of this broker
  send : step ≡ codes "send" ∷ [] → answers ≡ sent_within WINDOW old.queue
      → new ≡ with_queue (filled WINDOW old.queue) old → SessionStep old step answers new
  -- `send 16`: with another window
  send_within : (digits : Text) (window : ℕ) → step ≡ codes "send" ∷ digits ∷ []
      → number_of digits ≡ Some window → answers ≡ sent_within window old.queue
      → new ≡ with_queue (filled window old.queue) old → SessionStep old step answers new
  -- `resend`: what a client that comes back is sent again
  resend_all : step ≡ codes "resend" ∷ []
      → answers ≡ map packet_fields (resend old.queue.in_flight) → new ≡ old
      → SessionStep old step answers new
  -- `room`: how many more publications it takes
  room_left : step ≡ codes "room" ∷ []
      → answers ≡ counted (codes "room") (room max_entries old.queue) ∷ [] → new ≡ old
      → SessionStep old step answers new
  -- `puback 5`
  puback : (digits : Text) (id : ℕ) → step ≡ codes "puback" ∷ digits ∷ []
      → number_of digits ≡ Some id → answers ≡ []
      → new ≡ with_queue (with_flights (on_puback id old.queue.in_flight) old.queue) old
      → SessionStep old step answers new
  -- `pubrec 5`
  pubrec : (digits : Text) (id : ℕ) → step ≡ codes "pubrec" ∷ digits ∷ []
      → number_of digits ≡ Some id
      → answers ≡ map packet_fields (pubrec_sends id (on_pubrec id old.queue.in_flight))
      → new ≡ with_queue (with_flights (on_pubrec id old.queue.in_flight) old.queue) old
      → SessionStep old step answers new
  -- `pubcomp 5`
  pubcomp : (digits : Text) (id : ℕ) → step ≡ codes "pubcomp" ∷ digits ∷ []
      → number_of digits ≡ Some id → answers ≡ []
      → new ≡ with_queue (with_flights (on_pubcomp id old.queue.in_flight) old.queue) old
      → SessionStep old step answers new
  -- `publish 5` of a PUBLISH at QoS 2 that is new
  first : (digits : Text) (id : ℕ) → step ≡ codes "publish" ∷ digits ∷ []
      → number_of digits ≡ Some id → answers ≡ word (codes "new") ∷ []
      → new ≡ with_received (with_id id old.received) old → SessionStep old step answers new
  -- `publish 5` of one that came before
  again : (digits : Text) (id : ℕ) → step ≡ codes "publish" ∷ digits ∷ []
      → number_of digits ≡ Some id → has_id id old.received ≡ true
      → answers ≡ word (codes "repeat") ∷ [] → new ≡ old → SessionStep old step answers new
  -- `pubrel 5`
  pubrel : (digits : Text) (id : ℕ) → step ≡ codes "pubrel" ∷ digits ∷ []
      → number_of digits ≡ Some id → answers ≡ []
      → new ≡ with_received (without_id id old.received) old → SessionStep old step answers new
  -- `received 5`: whether a PUBLISH at QoS 2 with this identifier would be a repeat
  received : (digits : Text) (id : ℕ) → step ≡ codes "received" ∷ digits ∷ []
      → number_of digits ≡ Some id → answers ≡ yes_or_no (has_id id old.received) ∷ []
      → new ≡ old → SessionStep old step answers new
  -- `subscribe "t/#" 1`
  subscribe : (filter : Text) (qos : QoS)
      → step ≡ codes "subscribe" ∷ filter ∷ qos_text qos ∷ [] → answers ≡ []
      → new ≡ with_granted (with_subscription (filter, qos) old.subscriptions) old
      → SessionStep old step answers new
  -- `unsubscribe "t/#"`
  unsubscribe : (filter : Text) → step ≡ codes "unsubscribe" ∷ filter ∷ [] → answers ≡ []
      → new ≡ with_granted (without_filter filter old.subscriptions) old
      → SessionStep old step answers new
  -- `subscribed "t/#"`: whether this filter is subscribed
  subscribed : (filter : Text) → step ≡ codes "subscribed" ∷ filter ∷ []
      → answers ≡ yes_or_no (is_subscribed filter old.subscriptions) ∷ [] → new ≡ old
      → SessionStep old step answers new
  -- `subscriptions`: how many there are
  subscriptions : step ≡ codes "subscriptions" ∷ []
      → answers ≡ counted (codes "subscriptions") (length old.subscriptions) ∷ [] → new ≡ old
      → SessionStep old step answers new
  -- `granted "t/1"`: at which QoS at most it gets a publication
  granted : (topic : Text) → step ≡ codes "granted" ∷ topic ∷ []
      → answers ≡ granted_fields (granted_qos topic old.subscriptions) ∷ [] → new ≡ old
      → SessionStep old step answers new
  -- `thaw x"00 ..."`: a session is read from its frozen bytes
  thaw : (bytes : List ℕ) (left : ℕ) → step ≡ codes "thaw" ∷ bytes ∷ []
      → thawed (state_at WINDOW bytes) ≡ Some (new, left)
      → answers ≡ counted (codes "left") left ∷ [] → SessionStep old step answers new
  -- no session was frozen to these
  no_thaw : (bytes : List ℕ) → step ≡ codes "thaw" ∷ bytes ∷ []
      → thawed (state_at WINDOW bytes) ≡ None → answers ≡ word (codes "refused") ∷ []
      → new ≡ old → SessionStep old step answers new

-- a step of a row
abbrev pub SessionDoes : Client → List Text → Answers → Client → Type 0
SessionDoes old step answers new = SessionStep old.session step answers new.session

-- the steps agree with a session that begins
abbrev pub SessionAgrees : List Line → Type 0
SessionAgrees steps = Agrees SessionDoes (record { session = empty_session }) steps
