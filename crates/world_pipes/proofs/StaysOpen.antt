-- StaysOpen.antt: no call that is done, and no packet that is not refused, ends a connection.
use Rattle.std.proofs.Common.{◌≡◌, ℕ, Bool, true, false, if◌then◌else◌, List, Option, Some, None, Result, Ok, Err, refl, ap, sym, ◌∙◌, inl, inr}
use Rattle.std.specs.List.{list_any}
use Rattle.std.proofs.lemmas.Bool.{both_ways}
use Rattle.packet.specs.declared.packet.Packet.{Packet}
use Rattle.packet.specs.declared.packet.Packet.TheVariants as packets
use Rattle.packet.specs.declared.connack.Connack.TheVariants as connacks
use Rattle.packet.specs.declared.delivery.Delivery.{Delivery}
use Rattle.packet.specs.declared.delivery.Delivery.TheVariants as deliveries
use Rattle.packet.specs.declared.publish.Publish.{Publish}
use Rattle.packet_base.specs.declared.qos.QoS.{QoS}
use Rattle.session_base.specs.declared.publication.Publication.{Publication}
use Rattle.session_base.specs.Publication.{is_answered}
use Rattle.client_base.specs.declared.error.ClientError.{ClientError}
use Rattle.client_base.specs.declared.error.ClientError.TheVariants as errors
use Rattle.client_base.specs.declared.stage.Stage.{Stage}
use Rattle.client_base.specs.declared.stage.Stage.TheVariants as stages
use Rattle.client_base.specs.State.{ClientState, is_open, is_online}
use Rattle.client_base.specs.Answered.{ClientOutcome, on_publish, on_pubrec, awaits_pubrec}
use Rattle.client_base.specs.Calls.{on_first, on_later, client_receives}
use Rattle.client_base.specs.Publications.{publish_refusal, published}
use Rattle.client_base.specs.Steps.{Call, keeper_step, request_refusal, subscribed, unsubscribed, unless_refused}
use Rattle.client.specs.Core.{Core}
use Rattle.client.specs.Input.{Handles, LacksRoom, OnBytes, EndsWith}
use Rattle.lists.specs.Lists.{has_id}
use Rattle.world_pipes.specs.Inside.{stays_open}

-- ---- calls

unless_same : (refusal : Option ClientError) (outcome : ClientOutcome) (state : ClientState) → outcome.state.stage ≡ state.stage →
    (unless_refused refusal outcome state).state.stage ≡ state.stage
unless_same None outcome state same = same
unless_same (Some cause) outcome state same = refl

either : (test : Bool) (one other : ClientOutcome) (stage : Stage) → one.state.stage ≡ stage → other.state.stage ≡ stage →
    (if test then one else other).state.stage ≡ stage
either true one other stage a b = a
either false one other stage a b = b

chosen : (test : Bool) (one other : ClientState) (stage : Stage) → one.stage ≡ stage → other.stage ≡ stage → (if test then one else other).stage ≡ stage
chosen true one other stage a b = a
chosen false one other stage a b = b

pub publishing_stays : (p : Publication) (state : ClientState) → (keeper_step (Call.Publishes p) state).state.stage ≡ state.stage
publishing_stays p state =
    unless_same (publish_refusal p state) (published p state) state
    (either (is_online state.stage) _ _ state.stage (chosen (is_answered p.qos) _ state state.stage refl refl) refl)

pub subscribing_stays : (filter : List ℕ) (qos : QoS) (state : ClientState) → (keeper_step (Call.Subscribes filter qos) state).state.stage ≡ state.stage
subscribing_stays filter qos state = unless_same (request_refusal state) (subscribed filter qos state) state refl

pub unsubscribing_stays : (filter : List ℕ) (state : ClientState) → (keeper_step (Call.Unsubscribes filter) state).state.stage ≡ state.stage
unsubscribing_stays filter state = unless_same (request_refusal state) (unsubscribed filter state) state refl

-- ---- packets

-- whether the connection continues if a packet is refused in this way
abbrev pub goes_on : Option ClientError → Bool
goes_on None = true
goes_on (Some errors.SessionLost) = true
goes_on (Some cause) = false

publish_stays : (p : Publish) (delivery : Delivery) (state : ClientState) → (on_publish p delivery state).state.stage ≡ state.stage
publish_stays p deliveries.AtMostOnce state = refl
publish_stays p (deliveries.AtLeastOnce dup id) state = refl
publish_stays p (deliveries.ExactlyOnce dup id) state = chosen (has_id id state.received) state _ state.stage refl refl

pubrec_stays : (id : ℕ) (state : ClientState) → (on_pubrec id state).state.stage ≡ state.stage
pubrec_stays id state = either (list_any (awaits_pubrec id) state.sent) _ _ state.stage refl refl

later_stays : (packet : Packet) (state : ClientState) → goes_on (on_later packet state).refusal ≡ true → (on_later packet state).state.stage ≡ state.stage
later_stays (packets.Publish p) state ok = publish_stays p p.delivery state
later_stays (packets.Puback id) state ok = refl
later_stays (packets.Pubrec id) state ok = pubrec_stays id state
later_stays (packets.Pubcomp id) state ok = refl
later_stays (packets.Pubrel id) state ok = refl
later_stays (packets.Suback s) state ok = refl
later_stays (packets.Unsuback id) state ok = refl
later_stays packets.Pingresp state ok = refl
later_stays packets.Pingreq state ok = absurd (both_ways false refl ok)
later_stays packets.Disconnect state ok = absurd (both_ways false refl ok)
later_stays (packets.Connect c) state ok = absurd (both_ways false refl ok)
later_stays (packets.Connack c) state ok = absurd (both_ways false refl ok)
later_stays (packets.Subscribe s) state ok = absurd (both_ways false refl ok)
later_stays (packets.Unsubscribe s) state ok = absurd (both_ways false refl ok)

first_opens : (packet : Packet) (state : ClientState) → goes_on (on_first packet state).refusal ≡ true → is_open (on_first packet state).state.stage ≡ true
first_opens (packets.Connack (connacks.Accepted present)) state ok = refl
first_opens (packets.Connack (connacks.Refused code)) state ok = absurd (both_ways false refl ok)
first_opens _ state ok = absurd (both_ways false refl ok)

outcome_stays : (packet : Packet) (stage : Stage) (state : ClientState) → state.stage ≡ stage → goes_on (client_receives packet stage state).refusal ≡ true
    → is_open (client_receives packet stage state).state.stage ≡ true
outcome_stays packet stages.Closed state is ok = absurd (both_ways false refl ok)
outcome_stays packet stages.Opened state is ok = first_opens packet state ok
outcome_stays packet stages.Online state is ok = ap is_open (later_stays packet state ok ∙ is)

pub handled_stays : (start last : Core) → Handles start last → is_open start.state.stage ≡ true → is_open last.state.stage ≡ true
handled_stays start last Handles.none up = up
handled_stays start last (Handles.more {before = s} {read = t} packet before reads taken done) up =
    ap (λ (state : ClientState). is_open state.stage) done.0
    ∙ outcome_stays packet t.state.stage t.state refl (ap goes_on taken)

ends_open : (last new : Core) (read : Result (Unit {0}) ClientError) → is_open last.state.stage ≡ true → EndsWith last read new → stays_open read ≡ is_open new.state.stage
ends_open last new (Ok done) up ends = sym up ∙ ap (λ (core : Core). is_open core.state.stage) (sym ends.1)
ends_open last new (Err errors.SessionLost) up ends =
    let packet = ends.0 in
    let next = ends.1 in
    sym (outcome_stays packet next.state.stage next.state refl (ap goes_on ends.3))
    ∙ ap (λ (state : ClientState). is_open state.stage) (sym ends.4.0)
ends_open last new (Err errors.Memory) up ends = ap (λ (core : Core). is_open core.state.stage) (sym ends.1)
ends_open last new (Err errors.NotActive) up ends = ap (λ (core : Core). is_open core.state.stage) (sym ends.1)
ends_open last new (Err errors.WindowFull) up ends = ap (λ (core : Core). is_open core.state.stage) (sym ends.1)
ends_open last new (Err errors.TooLarge) up ends = ap (λ (core : Core). is_open core.state.stage) (sym ends.1)
ends_open last new (Err errors.Protocol) up ends = ap (λ (core : Core). is_open core.state.stage) (sym ends.1)
ends_open last new (Err (errors.Malformed kind)) up ends = ap (λ (core : Core). is_open core.state.stage) (sym ends.1)

-- without memory for a piece the connection ends
lacks_open : (piece : List ℕ) (old new : Core) (read : Result (Unit {0}) ClientError) → LacksRoom piece old read new → stays_open read ≡ is_open new.state.stage
lacks_open piece old new read lacks = ap stays_open lacks.1 ∙ ap (λ (core : Core). is_open core.state.stage) (sym lacks.2)

-- so the answer to a piece says whether the connection continues
pub heard_stays : (piece : List ℕ) (stage : Stage) (old new : Core) (read : Result (Unit {0}) ClientError) → old.state.stage ≡ stage → is_open stage ≡ true
    → OnBytes piece stage old read new → stays_open read ≡ is_open new.state.stage
heard_stays piece stages.Closed old new read is up heard = absurd (both_ways false refl up)
heard_stays piece stages.Opened old new read is up (inl lacks) = lacks_open piece old new read lacks
heard_stays piece stages.Opened old new read is up (inr heard) = ends_open heard.0 new read (handled_stays _ heard.0 heard.1 (ap is_open is)) heard.2
heard_stays piece stages.Online old new read is up (inl lacks) = lacks_open piece old new read lacks
heard_stays piece stages.Online old new read is up (inr heard) = ends_open heard.0 new read (handled_stays _ heard.0 heard.1 (ap is_open is)) heard.2
