-- CallsSpellable.antt: what a call writes can be spelled, and so can what is kept then.
use Rattle.std.proofs.Common.{◌≡◌, ℕ, zero, suc, ◌+◌, ◌^◌, ◌≤◌, ◌<◌, Bool, true, false, List, [], ◌∷◌, ◌++◌, length, Option, Some, None, IsTrue, refl, arith}
use Rattle.std.proofs.lemmas.Bool.{ltb-false, ltb-true}
use Rattle.std.proofs.lemmas.List.{length-append}
use Rattle.std.specs.List.{All}
use Rattle.topics.specs.Text.{is_filter, is_topic}
use Rattle.packet_base.specs.Spelling.{IsId}
use Rattle.packet_base.proofs.FieldsAgain.{filter_parts}
use Rattle.packet.specs.Delivery.{FitsDelivery}
use Rattle.packet_base.specs.QoS.{qos_number}
use Rattle.packet.specs.Spelling.{IsPacket, body, max_body}
use Rattle.packet.specs.Subscribe.{FitsSubscription}
use Rattle.packet.specs.declared.packet.Packet.{Packet}
use Rattle.packet.specs.declared.packet.Packet.TheVariants as packets
use Rattle.packet_base.specs.declared.qos.QoS.{QoS}
use Rattle.packet_base.specs.declared.qos.QoS.TheVariants as qos_levels
use Rattle.session_base.specs.declared.publication.Publication.{Publication}
use Rattle.session_base.specs.Publication.{delivery_with, is_answered}
use Rattle.session_base.proofs.IdentifiersOfFills.{least_free_is}
use Rattle.lists.proofs.OfEach.{each_append}
use Rattle.client_base.specs.declared.error.ClientError.{ClientError}
use Rattle.client_base.specs.declared.request.Request.{Request}
use Rattle.client_base.specs.declared.request.Request.TheVariants as requests
use Rattle.client_base.specs.declared.stage.Stage.{Stage}
use Rattle.client_base.specs.declared.stage.Stage.TheVariants as stages
use Rattle.client_base.specs.State.{ClientState, is_online, used_ids}
use Rattle.client_base.specs.Publications.{has_free_id, next_id, publish_packet, publish_refusal, published}
use Rattle.client_base.specs.Steps.{Call, asked, disconnected, keeper_step, request_refusal, unless_refused}
use Rattle.client_base.proofs.FollowsCalls.{kept_of, publish_outcome}
use Rattle.world_pipes.specs.StandsFor.{CanGoOut}
use Rattle.world_pipes.proofs.NotRefused.{asked_so, is_published}
use Rattle.world_pipes.proofs.Spellable.{AllSpelled, lost_fits}

-- ---- a single packet

id_fits : (state : ClientState) → has_free_id state ≡ true → IsId (next_id state)
id_fits state free =
    let some : 1 ≤ next_id state = (least_free_is (used_ids state)).0 in
    let below : next_id state < 65536 = ltb-true (next_id state) 65536 free in
    (omega (arith, some), omega (arith, below))

all_one : {X : Type 0} (P : X → Type 0) (x : X) → P x → All P (x ∷ [])
all_one P x one zero d few = one
all_one P x one (suc k) d few = absurd (omega (arith, few))

subscribe_is : (id : ℕ) (filter : List ℕ) (qos : QoS) → IsId id → IsTrue (is_filter filter) →
    IsPacket (packets.Subscribe (record { id = id; filters = record { filter = filter; qos = qos } ∷ [] }))
subscribe_is id filter qos one good = ((one, all_one FitsSubscription (record { filter = filter; qos = qos }) good), omega arith, short)
  where
    short : length (body (packets.Subscribe (record { id = id; filters = record { filter = filter; qos = qos } ∷ [] }))) ≤ max_body
    short =
        let few : length filter < 2 ^ 16 = (filter_parts filter good).1 in
        let e : length ((filter ++ qos_number qos ∷ []) ++ []) ≡ length (filter ++ qos_number qos ∷ []) + 0 = length-append (filter ++ qos_number qos ∷ []) [] in
        let f : length (filter ++ qos_number qos ∷ []) ≡ length filter + 1 = length-append filter (qos_number qos ∷ []) in
        let goal : suc (suc (suc (suc (length ((filter ++ qos_number qos ∷ []) ++ []))))) ≤ max_body = omega (arith, e, f, few) in goal

unsubscribe_is : (id : ℕ) (filter : List ℕ) → IsId id → IsTrue (is_filter filter) → IsPacket (packets.Unsubscribe (record { id = id; filters = filter ∷ [] }))
unsubscribe_is id filter one good = ((one, all_one (λ f. IsTrue (is_filter f)) filter good), omega arith, short)
  where
    short : length (body (packets.Unsubscribe (record { id = id; filters = filter ∷ [] }))) ≤ max_body
    short =
        let few : length filter < 2 ^ 16 = (filter_parts filter good).1 in
        let e : length (filter ++ []) ≡ length filter + 0 = length-append filter [] in
        let goal : suc (suc (suc (suc (length (filter ++ []))))) ≤ max_body = omega (arith, e, few) in goal

delivery_fits : (qos : QoS) (id : ℕ) → (is_answered qos ≡ true → IsId id) → FitsDelivery (delivery_with qos false id)
delivery_fits qos_levels.AtMostOnce id named = tt
delivery_fits qos_levels.AtLeastOnce id named = named refl
delivery_fits qos_levels.ExactlyOnce id named = named refl

publish_is : (p : Publication) (state : ClientState) → IsTrue (is_topic p.topic) → publish_refusal p state ≡ None → IsPacket (publish_packet p state)
publish_is p state good taken =
    let is = is_published p state taken in (
      (good, delivery_fits p.qos (next_id state) (λ e. id_fits state (is.named e))),
      tt,
      ltb-false max_body (length (body (publish_packet p state))) is.small,
    )

-- ---- publishing

-- what was published at QoS 1 and 2 is kept
kept_fits : (p : Publication) (id : ℕ) (state : ClientState) (answered online : Bool) →
    IsPacket (packets.Publish (record { topic = p.topic; delivery = delivery_with p.qos false id; retain = p.retain; payload = p.payload })) →
    CanGoOut state → AllSpelled (publish_outcome p id state answered online)
kept_fits p id state true true one fits =
    record {
      writes = (one, tt);
      left = record {
        keep_alive = fits.keep_alive;
        client = fits.client;
        released = fits.released;
        sent = each_append _ state.sent (kept_of p id ∷ []) fits.sent (one, tt);
        queued = fits.queued;
      };
    }
kept_fits p id state false true one fits = record { writes = (one, tt); left = fits }
kept_fits p id state answered false one fits =
    record {
      writes = tt;
      left = record {
        keep_alive = fits.keep_alive;
        client = fits.client;
        released = fits.released;
        sent = fits.sent;
        queued = each_append _ state.queued (kept_of p id ∷ []) fits.queued (one, tt);
      };
    }

publishing_so : (p : Publication) (state : ClientState) (refusal : Option ClientError) → publish_refusal p state ≡ refusal → IsTrue (is_topic p.topic) → CanGoOut state →
    AllSpelled (unless_refused refusal (published p state) state)
publishing_so p state (Some cause) is good fits = record { writes = tt; left = fits }
publishing_so p state None is good fits =
    kept_fits p (next_id state) state (is_answered p.qos) (is_online state.stage) (publish_is p state good is) fits

pub publishing_fits : (p : Publication) (state : ClientState) → IsTrue (is_topic p.topic) → CanGoOut state → AllSpelled (keeper_step (Call.Publishes p) state)
publishing_fits p state good fits = publishing_so p state (publish_refusal p state) refl good fits

-- ---- asking

asking_so : (refusal : Option ClientError) (request : Request) (packet : Packet) (state : ClientState) → (refusal ≡ None → IsPacket packet) → CanGoOut state →
    AllSpelled (unless_refused refusal (asked request packet state) state)
asking_so (Some cause) request packet state one fits = record { writes = tt; left = fits }
asking_so None request packet state one fits =
    record {
      writes = (one refl, tt);
      left = record { keep_alive = fits.keep_alive; client = fits.client; released = fits.released; sent = fits.sent; queued = fits.queued };
    }

-- the identifier of a request that is not refused
asked_id : (state : ClientState) → request_refusal state ≡ None → IsId (next_id state)
asked_id state taken = id_fits state (asked_so (is_online state.stage) (has_free_id state) taken).1

pub subscribing_fits : (filter : List ℕ) (qos : QoS) (state : ClientState) → IsTrue (is_filter filter) → CanGoOut state →
    AllSpelled (keeper_step (Call.Subscribes filter qos) state)
subscribing_fits filter qos state good fits =
    asking_so (request_refusal state) (requests.Subscribes (next_id state)) _ state (λ taken. subscribe_is (next_id state) filter qos (asked_id state taken) good) fits

pub unsubscribing_fits : (filter : List ℕ) (state : ClientState) → IsTrue (is_filter filter) → CanGoOut state →
    AllSpelled (keeper_step (Call.Unsubscribes filter) state)
unsubscribing_fits filter state good fits =
    asking_so (request_refusal state) (requests.Unsubscribes (next_id state)) _ state (λ taken. unsubscribe_is (next_id state) filter (asked_id state taken) good) fits

-- ---- leaving

pub leaving_fits : (stage : Stage) (state : ClientState) → CanGoOut state → AllSpelled (disconnected stage state)
leaving_fits stages.Closed state fits = record { writes = tt; left = fits }
leaving_fits stages.Opened state fits = record { writes = tt; left = lost_fits state fits }
leaving_fits stages.Online state fits = record { writes = ((tt, tt, omega arith), tt); left = lost_fits state fits }
