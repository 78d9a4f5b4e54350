-- A packet that the client handles keeps the shape of its publications.
use Rattle.std.proofs.Common.{◌≡◌, ℕ, suc, Bool, true, false, not, ◌&&◌, if◌then◌else◌, List, [], ◌∷◌, ◌++◌, map, drop, Some, refl, ap, sym, ◌∙◌, subst, inl, inr, ◌⊎◌}
use Rattle.std.specs.Prelude.{slice_get}
use Rattle.std.proofs.lemmas.Bool.{cases_Bool}
use Rattle.packet.specs.declared.connack.Connack.TheVariants as connacks
use Rattle.packet.specs.declared.delivery.Delivery.{Delivery}
use Rattle.packet.specs.declared.delivery.Delivery.TheVariants as deliveries
use Rattle.packet.specs.declared.packet.Packet.{Packet}
use Rattle.packet.specs.declared.packet.Packet.TheVariants as packets
use Rattle.session_base.specs.declared.publication.Publication.{Publication}
use Rattle.lists.specs.Lists.{IsDistinct, has_id}
use Rattle.session_base.specs.Publication.{publication_of}
use Rattle.broker_spec.specs.Place.{Past, Limits}
use Rattle.broker_spec.specs.Sessions.{current_connection}
use Rattle.exactly_once.specs.Items.{busy, has_sent}
use Rattle.exactly_once.specs.Handshake.{Backward}
use Rattle.exactly_once.specs.HandshakeInvariant.{IsGood}
use Rattle.exactly_once.specs.Sends.{put_to}
use Rattle.exactly_once.specs.Sides.{ClientConnection}
use Rattle.client_base.specs.Keeper.{Keeper}
use Rattle.client_base.specs.Written.{plain, writing}
use Rattle.client_base.specs.Handled.{not_subscribes, not_unsubscribes, packet_handled, handled_online, handled_first}
use Rattle.client_base.specs.Handshakes.{own_at_pubrec, is_sent_with, takes_in, pubrec_answered}
use Rattle.exactly_once.specs.Inside.Projections.{items_of_own, forward_of_own, backward_of_own, to_be_taken, is_current, as_publisher}
use Rattle.exactly_once.specs.Inside.Shape.{HeldInShape}
use Rattle.exactly_once.specs.Inside.OwnShape.{OwnInShape}
use Rattle.exactly_once.proofs.publishing.Written.{dropped_next}
use Rattle.exactly_once.proofs.publishing.First.{story_by}
use Rattle.exactly_once.proofs.publishing.Answered.{counted_side, due_first, sent_among, answer_link}
use Rattle.exactly_once.proofs.publishing.kept.KeepsOwn.{lost_keeps, received_keeps, requests_keep, confirmed_keeps, discarded_keeps}
use Rattle.exactly_once.proofs.publishing.kept.KeepsAnswers.{puback_keeps, pubrec_keeps, pubcomp_keeps}

-- ---- packets

publish_keeps : (keeper : Keeper) (κ : ClientConnection) (d : Delivery) (p : Publication) → OwnInShape keeper → OwnInShape (takes_in d p (counted_side keeper κ)).keeper
publish_keeps keeper κ deliveries.AtMostOnce p s = s
publish_keeps keeper κ (deliveries.AtLeastOnce dup id) p s = s
publish_keeps keeper κ (deliveries.ExactlyOnce dup id) p s = by (has_id id keeper.received)
  where
    by : (b : Bool) → OwnInShape (writing (plain (packets.Pubrec id) ∷ []) (if b then counted_side keeper κ else record {
      keeper = record keeper { received = id ∷ keeper.received };
      connection = record κ { handled = suc κ.handled; accepted = κ.accepted ++ p ∷ [] };
    })).keeper
    by true = s
    by false = received_keeps keeper (id ∷ keeper.received) s

releasing_keeps : (keeper : Keeper) (κ : ClientConnection) (i : ℕ) → OwnInShape keeper → has_sent i (items_of_own keeper.own) ≡ true → IsDistinct (busy (items_of_own keeper.own))
    → OwnInShape (pubrec_answered i (counted_side keeper κ)).keeper
releasing_keeps keeper κ i s has apart = by (is_sent_with i keeper.own) (has_id i keeper.releases)
  where
    by : (b r : Bool) → OwnInShape (if b then writing (plain (packets.Pubrel i) ∷ [])
        (counted_side (record keeper { own = map (own_at_pubrec i) keeper.own; releases = keeper.releases ++ i ∷ [] }) κ)
        else if r then writing (plain (packets.Pubrel i) ∷ []) (counted_side keeper κ) else counted_side keeper κ).keeper
    by true r = pubrec_keeps keeper i s has apart
    by false true = s
    by false false = s

online_keeps : (keeper : Keeper) (κ : ClientConnection) (packet : Packet) → OwnInShape keeper → ((i : ℕ) → packet ≡ packets.Pubrec i → has_sent i (items_of_own keeper.own) ≡ true)
    → IsDistinct (busy (items_of_own keeper.own)) → OwnInShape (handled_online packet (counted_side keeper κ)).keeper
online_keeps keeper κ (packets.Publish p) s has apart = publish_keeps keeper κ p.delivery (publication_of p) s
online_keeps keeper κ (packets.Puback i) s has apart = puback_keeps keeper i s
online_keeps keeper κ (packets.Pubrec i) s has apart = releasing_keeps keeper κ i s (has i refl) apart
online_keeps keeper κ (packets.Pubcomp i) s has apart = pubcomp_keeps keeper i s
online_keeps keeper κ (packets.Pubrel i) s has apart = received_keeps keeper _ s
online_keeps keeper κ (packets.Suback q) s has apart = requests_keep keeper (not_subscribes q.id) s
online_keeps keeper κ (packets.Unsuback i) s has apart = requests_keep keeper (not_unsubscribes i) s
online_keeps keeper κ packets.Pingresp s has apart = s
online_keeps keeper κ _ s has apart = lost_keeps keeper false s

first_keeps : (keeper : Keeper) (κ : ClientConnection) (packet : Packet) → OwnInShape keeper → OwnInShape (handled_first packet (counted_side keeper κ)).keeper
first_keeps keeper κ (packets.Connack (connacks.Accepted present)) s = confirmed_keeps _ (discarded_keeps keeper (not present && keeper.was_served) s)
first_keeps keeper κ (packets.Connack (connacks.Refused code)) s = lost_keeps keeper false s
first_keeps keeper κ _ s = lost_keeps keeper false s

-- the PUBREC that comes is of a sent item
pubrec_due : (limits : Limits) (past : Past) (keeper : Keeper) (κ : ClientConnection) (others : List ClientConnection) (i : ℕ) → keeper.is_online ≡ true → κ.confirmed ≡ true
    → slice_get (put_to limits past κ.name) κ.handled ≡ Some (packets.Pubrec i) → IsGood (as_publisher limits (story_by past (κ ∷ others) keeper)) → has_sent i (items_of_own keeper.own) ≡ true
pubrec_due limits past keeper κ others i on conf next good =
    let h = as_publisher limits (story_by past (κ ∷ others) keeper) in
    let b = backward_of_own (drop (suc κ.handled) (put_to limits past κ.name)) in
    ap (has_sent i) good.sides.is
    ∙ sent_among i good.old good.new (due_first h good (is_current (current_connection past keeper.client) κ.name) (Backward.Pubrec i) (forward_of_own (to_be_taken κ)) b
    (answer_link limits past keeper κ others (Backward.Pubrec i) b on conf (ap backward_of_own (dropped_next κ.handled (put_to limits past κ.name) (packets.Pubrec i) next))))

pub receives_keeps : (limits : Limits) (past : Past) (keeper : Keeper) (κ : ClientConnection) (others : List ClientConnection) (packet : Packet) → OwnInShape keeper → HeldInShape limits past keeper (κ ∷ others)
    → keeper.is_open ≡ true → slice_get (put_to limits past κ.name) κ.handled ≡ Some packet → IsGood (as_publisher limits (story_by past (κ ∷ others) keeper))
    → OwnInShape (packet_handled packet (record { keeper = keeper; connection = κ })).keeper
receives_keeps limits past keeper κ others packet s held opened next good = by (cases_Bool keeper.is_online)
  where
    after : Bool → Keeper
    after b = (if b then handled_online packet (counted_side keeper κ) else handled_first packet (counted_side keeper κ)).keeper

    by : (keeper.is_online ≡ true) ⊎ (keeper.is_online ≡ false) → OwnInShape (after keeper.is_online)
    by (inl on) =
        subst (λ (b : Bool). OwnInShape (after b)) (sym on)
        (online_keeps keeper κ packet s
        (λ i e. pubrec_due limits past keeper κ others i on (held.0 opened ∙ on) (next ∙ ap (λ q. Some q) e) good)
        (subst (λ items. IsDistinct (busy items)) (sym good.sides.is) good.sides.apart))
    by (inr off) = subst (λ (b : Bool). OwnInShape (after b)) (sym off) (first_keeps keeper κ packet s)
