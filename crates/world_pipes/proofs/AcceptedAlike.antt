-- AcceptedAlike.antt: what a client accepts at QoS 2 of a packet, the model's client accepts; a call accepts nothing.
use Rattle.std.proofs.Common.{◌≡◌, ℕ, suc, Bool, true, false, if◌then◌else◌, List, [], ◌∷◌, ◌++◌, filter, map, Option, Some, None, refl, ap, sym, subst, ◌∙◌, append_assoc}
use Rattle.std.specs.List.{list_any}
use Rattle.std.proofs.lemmas.Bool.{both_ways}
use Rattle.std.proofs.lemmas.List.{append-nil, map-append}
use Rattle.std.proofs.lemmas.List.Elements.{filter-append}
use Rattle.packet.specs.declared.connack.Connack.TheVariants as connacks
use Rattle.packet.specs.declared.delivery.Delivery.{Delivery}
use Rattle.packet.specs.declared.delivery.Delivery.TheVariants as deliveries
use Rattle.packet.specs.declared.packet.Packet.{Packet}
use Rattle.packet.specs.declared.packet.Packet.TheVariants as packets
use Rattle.packet.specs.declared.publish.Publish.{Publish}
use Rattle.packet_base.specs.declared.qos.QoS.{QoS}
use Rattle.session_base.specs.declared.publication.Publication.{Publication}
use Rattle.session_base.specs.Publication.{is_answered, publication_of}
use Rattle.lists.specs.Lists.{has_id}
use Rattle.client_base.specs.declared.accepted.Accepted.{Accepted}
use Rattle.client_base.specs.declared.error.ClientError.{ClientError}
use Rattle.client_base.specs.declared.stage.Stage.{Stage}
use Rattle.client_base.specs.declared.stage.Stage.TheVariants as stages
use Rattle.client_base.specs.State.{ClientState, is_online, is_open}
use Rattle.client_base.specs.Answered.{ClientOutcome, accepted_of, accepting, awaits_pubrec, on_publish, on_pubrec}
use Rattle.client_base.specs.Calls.{on_connack, discarded, loses_session, numbered, on_first, on_later, client_receives}
use Rattle.client_base.specs.Publications.{publish_refusal, published}
use Rattle.client_base.specs.Handled.{packet_handled, handled_first, handled_online}
use Rattle.client_base.specs.Handshakes.{is_sent_with, pubrec_answered, takes_in}
use Rattle.client_base.specs.Steps.{Call, disconnected, keeper_step, request_refusal, subscribed, unless_refused, unsubscribed}
use Rattle.exactly_once.specs.Sides.{Side}
use Rattle.headline.specs.byte_world.Accepted.{accepted_at_qos2, is_accepted_at_qos2, publication_accepted}

-- one more
more_accepted : (accepted : List Accepted) (one : Accepted) → accepted_at_qos2 (accepted ++ one ∷ []) ≡ accepted_at_qos2 accepted ++ accepted_at_qos2 (one ∷ [])
more_accepted accepted one =
    ap (map publication_accepted) (filter-append is_accepted_at_qos2 accepted (one ∷ []))
    ∙ map-append publication_accepted (filter is_accepted_at_qos2 accepted) (filter is_accepted_at_qos2 (one ∷ []))

-- ---- of a packet, after what was accepted on other connections

abbrev Alike : List Publication → Side → ClientState → Type 0
Alike before side state = accepted_at_qos2 state.accepted ≡ before ++ side.connection.accepted

-- on two sides that test the same
tested : (before : List Publication) (one other : Side) (here there : ClientState) (a b : Bool) → a ≡ b → Alike before one here → Alike before other there
    → Alike before (if b then one else other) (if a then here else there)
tested before one other here there true true e x y = x
tested before one other here there false false e x y = y
tested before one other here there true false e x y = absurd (both_ways true e refl)
tested before one other here there false true e x y = absurd (both_ways false refl e)

module _ (before : List Publication) (side : Side) (state : ClientState) (alike : Alike before side state) where
  not_at_two : (one : Accepted) → accepted_at_qos2 (one ∷ []) ≡ [] → accepted_at_qos2 (state.accepted ++ one ∷ []) ≡ before ++ side.connection.accepted
  not_at_two one none =
      more_accepted state.accepted one ∙ ap (λ (l : List Publication). accepted_at_qos2 state.accepted ++ l) none ∙ append-nil (accepted_at_qos2 state.accepted) ∙ alike

  at_two : (one : Accepted) (p : Publication) → accepted_at_qos2 (one ∷ []) ≡ p ∷ [] → accepted_at_qos2 (state.accepted ++ one ∷ []) ≡ before ++ (side.connection.accepted ++ p ∷ [])
  at_two one p is =
      more_accepted state.accepted one ∙ ap (λ (l : List Publication). accepted_at_qos2 state.accepted ++ l) is ∙ ap (λ (l : List Publication). l ++ p ∷ []) alike
      ∙ append_assoc before side.connection.accepted (p ∷ [])

  published_alike : (topic payload : List ℕ) (retain : Bool) (delivery : Delivery) → ((id : ℕ) → has_id id state.received ≡ has_id id side.keeper.received)
      → (let p : Publish = record { topic = topic; delivery = delivery; retain = retain; payload = payload } in
      Alike before (takes_in delivery (publication_of p) side) (on_publish p delivery state).state)
  published_alike topic payload retain deliveries.AtMostOnce received =
      not_at_two (accepted_of state.session (record { topic = topic; delivery = deliveries.AtMostOnce; retain = retain; payload = payload })) refl
  published_alike topic payload retain (deliveries.AtLeastOnce dup id) received =
      not_at_two (accepted_of state.session (record { topic = topic; delivery = deliveries.AtLeastOnce dup id; retain = retain; payload = payload })) refl
  published_alike topic payload retain (deliveries.ExactlyOnce dup id) received =
      let p : Publish = record { topic = topic; delivery = deliveries.ExactlyOnce dup id; retain = retain; payload = payload } in
      tested before side
      (record {
        keeper = record side.keeper { received = id ∷ side.keeper.received };
        connection = record side.connection { accepted = side.connection.accepted ++ publication_of p ∷ [] };
      }) state (record (accepting p state) { received = state.received ++ id ∷ [] }) (has_id id state.received) (has_id id side.keeper.received) (received id) alike
      (at_two (accepted_of state.session p) (publication_of p) refl)

  -- a test by which neither accepts
  side_still : (b : Bool) (one other : Side) → one.connection.accepted ≡ side.connection.accepted → other.connection.accepted ≡ side.connection.accepted
      → (if b then one else other).connection.accepted ≡ side.connection.accepted
  side_still true one other x y = x
  side_still false one other x y = y

  outcome_still : (b : Bool) (one other : ClientOutcome) → one.state.accepted ≡ state.accepted → other.state.accepted ≡ state.accepted
      → (if b then one else other).state.accepted ≡ state.accepted
  outcome_still true one other x y = x
  outcome_still false one other x y = y

  still : (later : Side) (after : ClientState) → later.connection.accepted ≡ side.connection.accepted → after.accepted ≡ state.accepted → Alike before later after
  still later after one two = ap accepted_at_qos2 two ∙ alike ∙ ap (λ (l : List Publication). before ++ l) (sym one)

  releasing_still : (id : ℕ) → (pubrec_answered id side).connection.accepted ≡ side.connection.accepted
  releasing_still id = side_still (is_sent_with id side.keeper.own) _ _ refl (side_still (has_id id side.keeper.releases) _ side refl refl)

  pubrec_still : (id : ℕ) → (on_pubrec id state).state.accepted ≡ state.accepted
  pubrec_still id = outcome_still (list_any (awaits_pubrec id) state.sent) _ _ refl refl

  later_alike : (packet : Packet) → ((id : ℕ) → has_id id state.received ≡ has_id id side.keeper.received) → Alike before (handled_online packet side) (on_later packet state).state
  later_alike (packets.Publish p) received = published_alike p.topic p.payload p.retain p.delivery received
  later_alike (packets.Pubrec id) received = still (pubrec_answered id side) (on_pubrec id state).state (releasing_still id) (pubrec_still id)
  later_alike (packets.Puback id) received = alike
  later_alike (packets.Pubcomp id) received = alike
  later_alike (packets.Pubrel id) received = alike
  later_alike (packets.Suback s) received = alike
  later_alike (packets.Unsuback id) received = alike
  later_alike packets.Pingresp received = alike
  later_alike packets.Pingreq received = alike
  later_alike packets.Disconnect received = alike
  later_alike (packets.Connect c) received = alike
  later_alike (packets.Connack c) received = alike
  later_alike (packets.Subscribe s) received = alike
  later_alike (packets.Unsubscribe s) received = alike

  kept_still : (b : Bool) → (if b then discarded state else numbered state).accepted ≡ state.accepted
  kept_still true = refl
  kept_still false = refl

  first_alike : (packet : Packet) → Alike before (handled_first packet side) (on_first packet state).state
  first_alike (packets.Connack (connacks.Accepted present)) = ap accepted_at_qos2 (kept_still (loses_session present state)) ∙ alike
  first_alike (packets.Connack (connacks.Refused code)) = alike
  first_alike (packets.Publish p) = alike
  first_alike (packets.Pubrec id) = alike
  first_alike (packets.Puback id) = alike
  first_alike (packets.Pubcomp id) = alike
  first_alike (packets.Pubrel id) = alike
  first_alike (packets.Suback s) = alike
  first_alike (packets.Unsuback id) = alike
  first_alike packets.Pingresp = alike
  first_alike packets.Pingreq = alike
  first_alike packets.Disconnect = alike
  first_alike (packets.Connect c) = alike
  first_alike (packets.Subscribe s) = alike
  first_alike (packets.Unsubscribe s) = alike

-- whichever it is
handled_where : (before : List Publication) (packet : Packet) (side : Side) (state after : ClientState) (b online : Bool) → b ≡ online
    → (b ≡ true → Alike before (handled_online packet side) after) → (b ≡ false → Alike before (handled_first packet side) after)
    → Alike before (if online then handled_online packet side else handled_first packet side) after
handled_where before packet side state after true true e x y = x refl
handled_where before packet side state after false false e x y = y refl
handled_where before packet side state after true false e x y = absurd (both_ways true e refl)
handled_where before packet side state after false true e x y = absurd (both_ways false refl e)

pub accepts_alike : (before : List Publication) (packet : Packet) (stage : Stage) (side : Side) (state : ClientState) → is_open stage ≡ true → is_online stage ≡ side.keeper.is_online
    → ((id : ℕ) → has_id id state.received ≡ has_id id side.keeper.received) → accepted_at_qos2 state.accepted ≡ before ++ side.connection.accepted
    → accepted_at_qos2 (client_receives packet stage state).state.accepted ≡ before ++ (packet_handled packet side).connection.accepted
accepts_alike before packet stages.Closed side state up online kept alike = absurd (both_ways false refl up)
accepts_alike before packet stages.Opened side state up online kept alike =
    let counted : Side = record side { connection = record side.connection { handled = suc side.connection.handled } } in
    handled_where before packet counted state (client_receives packet stages.Opened state).state false side.keeper.is_online online
    (λ e. absurd (both_ways false refl e)) (λ e. first_alike before counted state alike packet)
accepts_alike before packet stages.Online side state up online kept alike =
    let counted : Side = record side { connection = record side.connection { handled = suc side.connection.handled } } in
    handled_where before packet counted state (client_receives packet stages.Online state).state true side.keeper.is_online online
    (λ e. later_alike before counted state alike packet kept) (λ e. absurd (both_ways true e refl))

-- ---- of a call

unless_still : (refusal : Option ClientError) (outcome : ClientOutcome) (state : ClientState) → outcome.state.accepted ≡ state.accepted →
    (unless_refused refusal outcome state).state.accepted ≡ state.accepted
unless_still None outcome state same = same
unless_still (Some cause) outcome state same = refl

either : (test : Bool) (one other : ClientOutcome) (accepted : List Accepted) → one.state.accepted ≡ accepted → other.state.accepted ≡ accepted →
    (if test then one else other).state.accepted ≡ accepted
either true one other accepted a b = a
either false one other accepted a b = b

chosen : (test : Bool) (one other : ClientState) (accepted : List Accepted) → one.accepted ≡ accepted → other.accepted ≡ accepted → (if test then one else other).accepted ≡ accepted
chosen true one other accepted a b = a
chosen false one other accepted a b = b

pub publishing_accepts_none : (p : Publication) (state : ClientState) → (keeper_step (Call.Publishes p) state).state.accepted ≡ state.accepted
publishing_accepts_none p state =
    unless_still (publish_refusal p state) (published p state) state
    (either (is_online state.stage) _ _ state.accepted (chosen (is_answered p.qos) _ state state.accepted refl refl) refl)

pub subscribing_accepts_none : (filter : List ℕ) (qos : QoS) (state : ClientState) → (keeper_step (Call.Subscribes filter qos) state).state.accepted ≡ state.accepted
subscribing_accepts_none filter qos state = unless_still (request_refusal state) (subscribed filter qos state) state refl

pub unsubscribing_accepts_none : (filter : List ℕ) (state : ClientState) → (keeper_step (Call.Unsubscribes filter) state).state.accepted ≡ state.accepted
unsubscribing_accepts_none filter state = unless_still (request_refusal state) (unsubscribed filter state) state refl

pub leaving_accepts_none : (stage : Stage) (state : ClientState) → (disconnected stage state).state.accepted ≡ state.accepted
leaving_accepts_none stages.Closed state = refl
leaving_accepts_none stages.Opened state = refl
leaving_accepts_none stages.Online state = refl
