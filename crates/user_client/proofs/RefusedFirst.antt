-- RefusedFirst.antt: why a new client refuses its first publication, and what one at QoS 0 writes.
use Rattle.std.proofs.Common.{◌≡◌, ℕ, Bool, true, false, not, if◌then◌else◌, List, [], ◌∷◌, ◌++◌, Option, Some, None, is_some, refl, sym, ap, subst, ◌∙◌, inl, inr}
use Rattle.std.specs.Prelude.{◌⊎◌, option_map, unwrap_or}
use Rattle.std.proofs.lemmas.Bool.{both_ways}
use Rattle.std.specs.Io.KnownBytes.{Appends}
use Rattle.packet.specs.declared.packet.Packet.{Packet}
use Rattle.packet.specs.declared.packet.Packet.TheVariants as packets
use Rattle.packet_base.specs.declared.qos.QoS.{QoS}
use Rattle.packet_base.specs.declared.qos.QoS.TheVariants as qos_levels
use Rattle.packet.specs.declared.publish.Publish.{Publish}
use Rattle.packet.specs.declared.delivery.Delivery.TheVariants as deliveries
use Rattle.packet.specs.Spelling.{AppendsSpelling}
use Rattle.session_base.specs.Publication.{is_answered}
use Rattle.client_base.specs.declared.error.ClientError.{ClientError}
use Rattle.client_base.specs.declared.error.ClientError.TheVariants as errors
use Rattle.client_base.specs.State.{ClientState, is_online, new_client_state}
use Rattle.client_base.specs.Answered.{ClientOutcome, going_on}
use Rattle.client_base.specs.Publications.{is_over_limit, next_id, published, publish_packet}
use Rattle.client_base.specs.Steps.{Call, keeper_step, unless_refused}
use Rattle.client.specs.Core.{AppendsAll, publication_with}
use Rattle.user_client.specs.declared.user_client_error.UserClientError.{UserClientError}
use Rattle.user_client.specs.declared.user_client_error.UserClientError.TheVariants as clients
use Rattle.user_client.specs.Refusals.{IsRefusedFor, RefusesPacket, error_of_call, first_publish}
use Rattle.user_client.specs.Publisher.{TakesPublish, unkept}
use Rattle.user_client.specs.Traces.{CallerView, IsAsked, new_called}

-- the refusal of a publication at QoS 1 or 2 by a new client
abbrev size_refusal : Bool → Option ClientError
size_refusal large = if large then Some errors.TooLarge else None

-- it is too large, or memory ran out
large_only : (large : Bool) (outcome : ClientOutcome) (state : ClientState) (it : UserClientError) → outcome.refusal ≡ None
    → IsRefusedFor (unless_refused (size_refusal large) outcome state).refusal it
    → ((large ≡ true) × (it ≡ error_of_call errors.TooLarge)) ⊎ (it ≡ clients.Memory)
large_only large outcome state it kept (inr memory) = inr memory
large_only true outcome state it kept (inl is) = inl (refl, sym (ap (λ (o : Option UserClientError). unwrap_or o it) is))
large_only false outcome state it kept (inl is) =
    absurd (both_ways true (ap is_some (sym is ∙ ap (option_map error_of_call) kept)) refl)

not_large : (large : Bool) (outcome : ClientOutcome) (state : ClientState)
    → (unless_refused (size_refusal large) outcome state).refusal ≡ None → large ≡ false
not_large true outcome state taken = absurd (both_ways true (ap is_some taken) refl)
not_large false outcome state taken = refl

-- a new client refuses a publication at QoS 1 or 2 only for its size
pub refuses_first : (id : List ℕ) (retain : Bool) (qos : QoS) (topic payload : List ℕ) (caller : CallerView) (it : UserClientError)
    → is_answered qos ≡ true → caller ≡ new_called id
    → IsRefusedFor (keeper_step (Call.Publishes (publication_with retain qos topic payload)) caller.core.state).refusal it
    → RefusesPacket (first_publish id (publication_with retain qos topic payload)) it
refuses_first id retain qos_levels.AtMostOnce topic payload caller it answered is refused = absurd cc
refuses_first id retain qos_levels.AtLeastOnce topic payload caller it answered is refused =
    let p = publication_with retain qos_levels.AtLeastOnce topic payload in
    large_only (is_over_limit (first_publish id p)) (published p (new_client_state id 0)) (new_client_state id 0) it refl
    (subst (λ (c : CallerView). IsRefusedFor (keeper_step (Call.Publishes p) c.core.state).refusal it) is refused)
refuses_first id retain qos_levels.ExactlyOnce topic payload caller it answered is refused =
    let p = publication_with retain qos_levels.ExactlyOnce topic payload in
    large_only (is_over_limit (first_publish id p)) (published p (new_client_state id 0)) (new_client_state id 0) it refl
    (subst (λ (c : CallerView). IsRefusedFor (keeper_step (Call.Publishes p) c.core.state).refusal it) is refused)

-- what a new client took is not over the limit
pub fits_first : (id : List ℕ) (retain : Bool) (qos : QoS) (topic payload : List ℕ) (caller new : CallerView)
    → is_answered qos ≡ true → caller ≡ new_called id → IsAsked (publication_with retain qos topic payload) caller new
    → is_over_limit (first_publish id (publication_with retain qos topic payload)) ≡ false
fits_first id retain qos_levels.AtMostOnce topic payload caller new answered is asked = absurd cc
fits_first id retain qos_levels.AtLeastOnce topic payload caller new answered is asked =
    let p = publication_with retain qos_levels.AtLeastOnce topic payload in
    not_large (is_over_limit (first_publish id p)) (published p (new_client_state id 0)) (new_client_state id 0)
    (subst (λ (c : CallerView). IsAsked p c new) is asked).0.0
fits_first id retain qos_levels.ExactlyOnce topic payload caller new answered is asked =
    let p = publication_with retain qos_levels.ExactlyOnce topic payload in
    not_large (is_over_limit (first_publish id p)) (published p (new_client_state id 0)) (new_client_state id 0)
    (subst (λ (c : CallerView). IsAsked p c new) is asked).0.0

-- the PUBLISH at QoS 0 has no identifier
pub first_unkept : (id : List ℕ) (retain : Bool) (qos : QoS) (topic payload : List ℕ) → qos ≡ qos_levels.AtMostOnce
    → packets.Publish (unkept (publication_with retain qos_levels.AtMostOnce topic payload))
    ≡ first_publish id (publication_with retain qos topic payload)
first_unkept id retain qos_levels.AtMostOnce topic payload is = refl
first_unkept id retain qos_levels.AtLeastOnce topic payload is = absurd cc
first_unkept id retain qos_levels.ExactlyOnce topic payload is = absurd cc

-- a publication at QoS 0 is refused while the client is offline, or as too large
abbrev once_refusal : Bool → Bool → Option ClientError
once_refusal online large =
    if not online then Some errors.NotActive else if large then Some errors.TooLarge else None

-- it is written at once
abbrev once_outcome : Bool → ClientState → ClientState → Packet → ClientOutcome
once_outcome online state other packet = if online then going_on state (packet ∷ []) else going_on other []

once_written : (online large : Bool) (state other : ClientState) (packet : Packet) (out new : List ℕ)
    → (unless_refused (once_refusal online large) (once_outcome online state other packet) state).refusal ≡ None
    → AppendsAll out new (unless_refused (once_refusal online large) (once_outcome online state other packet) state).writes
    → AppendsSpelling out new packet
once_written true false state other packet out new taken writes =
    subst (λ (b : List ℕ). AppendsSpelling out b packet) (sym writes.2) writes.1
once_written true true state other packet out new taken writes = absurd (both_ways true (ap is_some taken) refl)
once_written false large state other packet out new taken writes = absurd (both_ways true (ap is_some taken) refl)

-- a client that took a publication at QoS 0 wrote its PUBLISH
pub wrote_once : (retain : Bool) (topic payload : List ℕ) (old new : CallerView)
    → IsAsked (publication_with retain qos_levels.AtMostOnce topic payload) old new
    → AppendsSpelling old.core.out new.core.out
    (packets.Publish (unkept (publication_with retain qos_levels.AtMostOnce topic payload)))
wrote_once retain topic payload old new (does, was) =
    let p = publication_with retain qos_levels.AtMostOnce topic payload in
    let state = old.core.state in
    once_written (is_online state.stage) (is_over_limit (publish_packet p state)) state
    (record state { queued = state.queued ++ record { id = next_id state; publication = p } ∷ [] }) (publish_packet p state)
    old.core.out new.core.out does.0 does.1.1

-- what a client wrote of a publication at QoS 0 was taken as a whole
pub taken_once : {D : Type 0} (contents : D → Option (List ℕ)) (before after : D) (publish : Publish) (old new : CallerView)
    (topic payload : List ℕ) → topic ≡ publish.topic → payload ≡ publish.payload
    → IsAsked (publication_with publish.retain qos_levels.AtMostOnce topic payload) old new
    → Appends (contents before) (contents after) new.core.out → TakesPublish contents publish before after
taken_once contents before after publish old new topic payload same_topic same_payload asked taken =
    record {
      before = old.core.out;
      bytes = new.core.out;
      spelled = subst (λ (t : List ℕ). AppendsSpelling old.core.out new.core.out (packets.Publish
          (record publish { topic = t; delivery = deliveries.AtMostOnce }))) same_topic
          (subst (λ (b : List ℕ). AppendsSpelling old.core.out new.core.out (packets.Publish
          (record publish { topic = topic; delivery = deliveries.AtMostOnce; payload = b }))) same_payload
          (wrote_once publish.retain topic payload old new asked));
      taken = taken;
    }
