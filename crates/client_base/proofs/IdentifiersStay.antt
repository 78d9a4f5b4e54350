-- IdentifiersStay.antt: whatever is called, and whatever the server sends, identifiers stay apart.
use Rattle.std.proofs.Common.{◌≡◌, ℕ, ◌+◌, ◌≤◌, Bool, true, false, not, ◌==◌, if◌then◌else◌, List, [], ◌∷◌, ◌++◌, map, filter, Option, Some, None, refl, ap, sym, ◌∙◌, subst, arith}
use Rattle.std.specs.List.{list_any}
use Rattle.std.proofs.lemmas.Bool.{eqb-true}
use Rattle.lists.specs.Lists.{has_id}
use Rattle.packet.specs.declared.delivery.Delivery.{Delivery}
use Rattle.packet.specs.declared.delivery.Delivery.TheVariants as deliveries
use Rattle.packet.specs.declared.publish.Publish.{Publish}
use Rattle.packet.specs.declared.packet.Packet.{Packet}
use Rattle.packet.specs.declared.packet.Packet.TheVariants as packets
use Rattle.session_base.specs.declared.publication.Publication.{Publication}
use Rattle.session_base.specs.Publication.{is_answered}
use Rattle.session_base.specs.Theorems.{IsLeastFree}
use Rattle.session_base.proofs.CountedIdentifiers.{one_if, count-append, not_counted}
use Rattle.client_base.specs.declared.error.ClientError.{ClientError}
use Rattle.client_base.specs.declared.unacknowledged_publication.UnacknowledgedPublication.{UnacknowledgedPublication}
use Rattle.client_base.specs.declared.request.Request.{Request}
use Rattle.client_base.specs.declared.stage.Stage.{Stage}
use Rattle.client_base.specs.declared.stage.Stage.TheVariants as stages
use Rattle.client_base.specs.State.{ClientState, is_online, ids_of_kept, id_of_request, used_ids}
use Rattle.client_base.specs.Answered.{ClientOutcome, on_publish, awaits_puback, awaits_pubrec, is_subscribe, is_unsubscribe}
use Rattle.client_base.specs.Calls.{on_later}
use Rattle.client_base.specs.Publications.{next_id, published}
use Rattle.client_base.specs.Steps.{unless_refused, disconnected}
use Rattle.client_base.proofs.IdentifiersApart.{often, fewer_kept, fewer_requests, fewer_ids, released_leaves, tally, used_tally}

-- each is used once at most
abbrev pub AreOnce : ClientState → Type 0
AreOnce state = (i : ℕ) → tally i state ≤ 1

-- if none is used more often than before
pub fewer : (old new : ClientState) → ((i : ℕ) → tally i new ≤ tally i old) → AreOnce old → AreOnce new
fewer old new less few i = let a = less i in let b = few i in omega (arith, a, b)

-- if one is used that was free
one_more : (old new : ClientState) (x : ℕ) → tally x old ≡ 0 → ((i : ℕ) → tally i new ≤ tally i old + one_if (i == x)) → AreOnce old → AreOnce new
one_more old new x free more few i = by (i == x) refl (more i) (few i)
  where
    by : (b : Bool) → (i == x) ≡ b → tally i new ≤ tally i old + one_if b → tally i old ≤ 1 → tally i new ≤ 1
    by true e m f = let none : tally i old ≡ 0 = subst (λ (y : ℕ). tally y old ≡ 0) (sym (eqb-true i x e)) free in omega arith
    by false e m f = omega arith

-- ---- publishing and asking

next_free : (law : IsLeastFree) (state : ClientState) → tally (next_id state) state ≡ 0
next_free law state = sym (used_tally (next_id state) state) ∙ not_counted (next_id state) (used_ids state) (law (used_ids state)).2

kept_more : (i : ℕ) (kept : List UnacknowledgedPublication) (one : UnacknowledgedPublication) → often i (ids_of_kept (kept ++ one ∷ [])) ≡ often i (ids_of_kept kept) + one_if (i == one.id)
kept_more i [] one = omega arith
kept_more i (k ∷ kept) one = let ih = kept_more i kept one in omega (arith, ih)

asked_more : (i : ℕ) (requests : List Request) (one : Request) → often i (map id_of_request (requests ++ one ∷ [])) ≡ often i (map id_of_request requests) + one_if (i == id_of_request one)
asked_more i [] one = omega arith
asked_more i (r ∷ requests) one = let ih = asked_more i requests one in omega (arith, ih)

either_outcome : (b : Bool) (x y : ClientOutcome) → AreOnce x.state → AreOnce y.state → AreOnce (if b then x else y).state
either_outcome true x y e f = e
either_outcome false x y e f = f

either_state : (b : Bool) (x y : ClientState) → AreOnce x → AreOnce y → AreOnce (if b then x else y)
either_state true x y e f = e
either_state false x y e f = f

pub unless : (refusal : Option ClientError) (outcome : ClientOutcome) (state : ClientState) → AreOnce state → AreOnce outcome.state → AreOnce (unless_refused refusal outcome state).state
unless (Some cause) outcome state e f = e
unless None outcome state e f = f

pub sent_once : (law : IsLeastFree) (one : UnacknowledgedPublication) (state : ClientState) → one.id ≡ next_id state → AreOnce state → AreOnce (record state { sent = state.sent ++ one ∷ [] })
sent_once law one state is few =
    one_more state (record state { sent = state.sent ++ one ∷ [] }) (next_id state) (next_free law state)
    (λ i. let m = kept_more i state.sent one in let n : one_if (i == one.id) ≡ one_if (i == next_id state) = ap (λ y. one_if (i == y)) is in omega (arith, m, n)) few

pub queued_once : (law : IsLeastFree) (one : UnacknowledgedPublication) (state : ClientState) → one.id ≡ next_id state → AreOnce state → AreOnce (record state { queued = state.queued ++ one ∷ [] })
queued_once law one state is few =
    one_more state (record state { queued = state.queued ++ one ∷ [] }) (next_id state) (next_free law state)
    (λ i. let m = kept_more i state.queued one in let n : one_if (i == one.id) ≡ one_if (i == next_id state) = ap (λ y. one_if (i == y)) is in omega (arith, m, n)) few

pub published_once : (law : IsLeastFree) (p : Publication) (state : ClientState) → AreOnce state → AreOnce (published p state).state
published_once law p state few =
    either_outcome (is_online state.stage) _ _
    (either_state (is_answered p.qos) _ state (sent_once law (record { id = next_id state; publication = p }) state refl few) few)
    (queued_once law (record { id = next_id state; publication = p }) state refl few)

pub asked_once : (law : IsLeastFree) (request : Request) (state : ClientState) → id_of_request request ≡ next_id state → AreOnce state
    → AreOnce (record state { requests = state.requests ++ request ∷ [] })
asked_once law request state is few =
    one_more state (record state { requests = state.requests ++ request ∷ [] }) (next_id state) (next_free law state)
    (λ i. let m = asked_more i state.requests request in let n : one_if (i == id_of_request request) ≡ one_if (i == next_id state) = ap (λ y. one_if (i == y)) is in omega (arith, m, n)) few

-- ---- the end of a connection, and packets

pub lost_once : (state : ClientState) (stage : Stage) → AreOnce state → AreOnce (record state { requests = []; stage = stage })
lost_once state stage few = fewer state (record state { requests = []; stage = stage }) (λ i. omega arith) few

pub ended_once : (stage : Stage) (state : ClientState) → AreOnce state → AreOnce (disconnected stage state).state
ended_once stages.Closed state few = few
ended_once stages.Opened state few = lost_once state stages.Closed few
ended_once stages.Online state few = lost_once state stages.Closed few

publish_once : (p : Publish) (delivery : Delivery) (state : ClientState) → AreOnce state → AreOnce (on_publish p delivery state).state
publish_once p deliveries.AtMostOnce state few = few
publish_once p (deliveries.AtLeastOnce dup id) state few = few
publish_once p (deliveries.ExactlyOnce dup id) state few = either_state (has_id id state.received) state _ few few

-- the released one is moved from its place to the end
pubrec_once : (id : ℕ) (state : ClientState) → AreOnce state → AreOnce (on_later (packets.Pubrec id) state).state
pubrec_once id state few = by (list_any (awaits_pubrec id) state.sent) refl
  where
    left : ClientState
    left = record state { released = state.released ++ id ∷ []; sent = filter (λ one. not (awaits_pubrec id one)) state.sent }

    by : (b : Bool) → list_any (awaits_pubrec id) state.sent ≡ b
        → AreOnce (if◌then◌else◌ {A = ClientOutcome} b (record { state = left; writes = packets.Pubrel id ∷ []; refusal = None })
        (record { state = state; writes = if has_id id state.released then packets.Pubrel id ∷ [] else []; refusal = None })).state
    by true e =
        fewer state left
        (λ i. let m = released_leaves i id state.sent e in
        let n : often i (state.released ++ id ∷ []) ≡ often i state.released + (one_if (i == id) + 0) = count-append (λ y. i == y) state.released (id ∷ []) in
        omega (arith, m, n)) few
    by false e = few

pub later_once : (packet : Packet) (state : ClientState) → AreOnce state → AreOnce (on_later packet state).state
later_once (packets.Publish p) state few = publish_once p p.delivery state few
later_once (packets.Puback id) state few = fewer state (record state { sent = filter (λ one. not (awaits_puback id one)) state.sent }) (λ i. let m = fewer_kept i (λ one. not (awaits_puback id one)) state.sent in omega (arith, m)) few
later_once (packets.Pubrec id) state few = pubrec_once id state few
later_once (packets.Pubrel id) state few = few
later_once (packets.Pubcomp id) state few = fewer state (record state { released = filter (λ other. not (id == other)) state.released }) (λ i. let m = fewer_ids i (λ other. not (id == other)) state.released in omega (arith, m)) few
later_once (packets.Suback a) state few = fewer state (record state { requests = filter (λ request. not (is_subscribe a.id request)) state.requests }) (λ i. let m = fewer_requests i (λ request. not (is_subscribe a.id request)) state.requests in omega (arith, m)) few
later_once (packets.Unsuback id) state few = fewer state (record state { requests = filter (λ request. not (is_unsubscribe id request)) state.requests }) (λ i. let m = fewer_requests i (λ request. not (is_unsubscribe id request)) state.requests in omega (arith, m)) few
later_once packets.Pingresp state few = few
later_once _ state few = lost_once state stages.Closed few
