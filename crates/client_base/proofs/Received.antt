-- Received.antt: under an identifier that is kept nothing is accepted, and it stays kept until its PUBREL.
use Rattle.std.proofs.Common.{◌≡◌, ℕ, Bool, true, false, not, ◌||◌, ◌==◌, if◌then◌else◌, List, [], ◌∷◌, ◌++◌, filter, Option, Some, None, ◌⊎◌, inl, inr, refl, ap, sym, ◌∙◌, arith}
use Rattle.std.specs.List.{list_any}
use Rattle.std.proofs.lemmas.Bool.{both_ways, eqb-true}
use Rattle.std.proofs.lemmas.List.Folds.{list_any-append}
use Rattle.packet.specs.declared.connack.Connack.TheVariants as connacks
use Rattle.packet.specs.declared.delivery.Delivery.{Delivery}
use Rattle.packet.specs.declared.delivery.Delivery.TheVariants as deliveries
use Rattle.packet.specs.declared.publish.Publish.{Publish}
use Rattle.packet.specs.declared.packet.Packet.{Packet}
use Rattle.packet.specs.declared.packet.Packet.TheVariants as packets
use Rattle.lists.specs.Lists.{has_id}
use Rattle.session_base.specs.declared.publication.Publication.{Publication}
use Rattle.session_base.specs.Publication.{is_answered}
use Rattle.client_base.specs.declared.error.ClientError.{ClientError}
use Rattle.client_base.specs.declared.stage.Stage.{Stage}
use Rattle.client_base.specs.declared.stage.Stage.TheVariants as stages
use Rattle.client_base.specs.State.{ClientState, is_online}
use Rattle.client_base.specs.Answered.{ClientOutcome, on_publish, accepting, awaits_pubrec}
use Rattle.session_base.specs.Identifiers.{without_id}
use Rattle.client_base.specs.Calls.{client_receives, on_first, on_later}
use Rattle.client_base.specs.Publications.{published, publish_refusal}
use Rattle.client_base.specs.Steps.{Call, unless_refused, request_refusal, subscribed, unsubscribed, disconnected}
use Rattle.client_base.specs.Theorems.{AcceptsUnlessKept, StaysKept}

-- ---- identifiers in lists

same_id : (n : ℕ) → (n == n) ≡ true
same_id n = grind arith

pub kept_last : (id : ℕ) (ids : List ℕ) → has_id id (ids ++ id ∷ []) ≡ true
kept_last id [] = ap (λ b. b || false) (same_id id)
kept_last id (other ∷ ids) = ap (λ b. (id == other) || b) (kept_last id ids) ∙ or_true (id == other)
  where
    or_true : (b : Bool) → (b || true) ≡ true
    or_true true = refl
    or_true false = refl

pub has_more : (id : ℕ) (ids more : List ℕ) → has_id id ids ≡ true → has_id id (ids ++ more) ≡ true
has_more id ids more e = list_any-append (λ other. id == other) ids more ∙ ap (λ b. b || has_id id more) e

-- only this one is left out
pub has_others : (id other : ℕ) (ids : List ℕ) → (other == id) ≡ false → has_id id (without_id other ids) ≡ has_id id ids
has_others id other [] e = refl
has_others id other (first ∷ ids) e = by (other == first) refl (has_others id other ids e)
  where
    differs : (other == first) ≡ true → (id == first) ≡ false
    differs h = grind arith

    by : (b : Bool) → (other == first) ≡ b → has_id id (without_id other ids) ≡ has_id id ids
        → has_id id (if not b then first ∷ without_id other ids else without_id other ids) ≡ ((id == first) || has_id id ids)
    by true h ih = ih ∙ sym (ap (λ b. b || has_id id ids) (differs h))
    by false h ih = ap (λ b. (id == first) || b) ih

-- ---- what a PUBLISH does to it

pub accepts_unless_kept : AcceptsUnlessKept
accepts_unless_kept p dup id state = by (has_id id state.received) refl
  where
    taken : ClientState
    taken = record (accepting p state) { received = state.received ++ id ∷ [] }

    by : (b : Bool) → has_id id state.received ≡ b
        → (b ≡ true → (if b then state else taken) ≡ state)
        × (b ≡ false → (if b then state else taken).accepted ≡ (accepting p state).accepted)
        × (has_id id (if b then state else taken).received ≡ true)
    by true h = (λ e. refl, λ e. absurd (both_ways true e refl), h)
    by false h = (λ e. absurd (both_ways false refl e), λ e. refl, kept_last id state.received)

-- ---- what a call leaves of it

-- it stays, or the call is one of the two that may forget it
abbrev Stays : ℕ → Call → ClientOutcome → Type 0
Stays id call outcome =
    (has_id id outcome.state.received ≡ true)
    ⊎ ((call ≡ Call.Receives (packets.Pubrel id)) ⊎ (call ≡ Call.Receives (packets.Connack (connacks.Accepted false))))

-- in either of two outcomes, or of two states
either_outcome : (id : ℕ) (b : Bool) (x y : ClientOutcome) → has_id id x.state.received ≡ true → has_id id y.state.received ≡ true
    → has_id id (if b then x else y).state.received ≡ true
either_outcome id true x y e f = e
either_outcome id false x y e f = f

either_state : (id : ℕ) (b : Bool) (x y : ClientState) → has_id id x.received ≡ true → has_id id y.received ≡ true
    → has_id id (if b then x else y).received ≡ true
either_state id true x y e f = e
either_state id false x y e f = f

unless : (id : ℕ) (refusal : Option ClientError) (outcome : ClientOutcome) (state : ClientState)
    → has_id id state.received ≡ true → has_id id outcome.state.received ≡ true → has_id id (unless_refused refusal outcome state).state.received ≡ true
unless id (Some cause) outcome state e f = e
unless id None outcome state e f = f

stays_published : (id : ℕ) (p : Publication) (state : ClientState) → has_id id state.received ≡ true → has_id id (published p state).state.received ≡ true
stays_published id p state e = either_outcome id (is_online state.stage) _ _ (either_state id (is_answered p.qos) _ state e e) e

stays_ended : (id : ℕ) (stage : Stage) (state : ClientState) → has_id id state.received ≡ true → has_id id (disconnected stage state).state.received ≡ true
stays_ended id stages.Closed state e = e
stays_ended id stages.Opened state e = e
stays_ended id stages.Online state e = e

stays_publish : (id : ℕ) (p : Publish) (delivery : Delivery) (state : ClientState) → has_id id state.received ≡ true
    → has_id id (on_publish p delivery state).state.received ≡ true
stays_publish id p deliveries.AtMostOnce state e = e
stays_publish id p (deliveries.AtLeastOnce dup other) state e = e
stays_publish id p (deliveries.ExactlyOnce dup other) state e =
    either_state id (has_id other state.received) state _ e (has_more id state.received (other ∷ []) e)

stays_first : (id : ℕ) (packet : Packet) (state : ClientState) → has_id id state.received ≡ true → Stays id (Call.Receives packet) (on_first packet state)
stays_first id (packets.Connack (connacks.Accepted false)) state e = inr (inr refl)
stays_first id (packets.Connack (connacks.Accepted true)) state e = inl e
stays_first id (packets.Connack (connacks.Refused code)) state e = inl e
stays_first id _ state e = inl e

stays_pubrel : (id other : ℕ) (state : ClientState) → has_id id state.received ≡ true → Stays id (Call.Receives (packets.Pubrel other)) (on_later (packets.Pubrel other) state)
stays_pubrel id other state e = by (other == id) refl
  where
    by : (b : Bool) → (other == id) ≡ b → Stays id (Call.Receives (packets.Pubrel other)) (on_later (packets.Pubrel other) state)
    by true h = inr (inl (ap (λ n. Call.Receives (packets.Pubrel n)) (eqb-true other id h)))
    by false h = inl (has_others id other state.received h ∙ e)

stays_later : (id : ℕ) (packet : Packet) (state : ClientState) → has_id id state.received ≡ true → Stays id (Call.Receives packet) (on_later packet state)
stays_later id (packets.Publish p) state e = inl (stays_publish id p p.delivery state e)
stays_later id (packets.Pubrec other) state e = inl (either_outcome id (list_any (awaits_pubrec other) state.sent) _ _ e e)
stays_later id (packets.Pubrel other) state e = stays_pubrel id other state e
stays_later id _ state e = inl e

stays_received : (id : ℕ) (packet : Packet) (stage : Stage) (state : ClientState) → has_id id state.received ≡ true
    → Stays id (Call.Receives packet) (client_receives packet stage state)
stays_received id packet stages.Closed state e = inl e
stays_received id packet stages.Opened state e = stays_first id packet state e
stays_received id packet stages.Online state e = stays_later id packet state e

pub stays_kept : StaysKept
stays_kept id Call.Opens state e = inl e
stays_kept id (Call.Publishes p) state e = inl (unless id (publish_refusal p state) (published p state) state e (stays_published id p state e))
stays_kept id (Call.Subscribes filter qos) state e = inl (unless id (request_refusal state) (subscribed filter qos state) state e e)
stays_kept id (Call.Unsubscribes filter) state e = inl (unless id (request_refusal state) (unsubscribed filter state) state e e)
stays_kept id (Call.Receives packet) state e = stays_received id packet state.stage state e
stays_kept id Call.Loses state e = inl e
stays_kept id Call.Disconnects state e = inl (stays_ended id state.stage state e)
