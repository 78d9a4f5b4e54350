-- The client receives a PUBLISH.
use Rattle.std.proofs.Common.{◌≡◌, ℕ, suc, Bool, true, false, ◌||◌, ◌==◌, List, [], ◌∷◌, ◌++◌, refl, ap, sym, ◌∙◌, ◌⊎◌, inl, inr}
use Rattle.std.proofs.lemmas.List.{append-nil}
use Rattle.std.proofs.lemmas.Bool.{both_ways, cases_Bool}
use Rattle.packet.specs.declared.delivery.Delivery.{Delivery}
use Rattle.packet.specs.declared.delivery.Delivery.TheVariants as deliveries
use Rattle.packet.specs.declared.publish.Publish.{Publish}
use Rattle.packet.specs.declared.packet.Packet.TheVariants as packets
use Rattle.session_base.specs.declared.publication.Publication.{Publication}
use Rattle.session_base.specs.Publication.{publication_of}
use Rattle.lists.specs.Lists.{has_id}
use Rattle.broker_spec.specs.Place.{Limits}
use Rattle.exactly_once.specs.Handshake.{Forward, Transit, Handshake, receiver_takes, receiver_accepts}
use Rattle.exactly_once.specs.Sides.{ClientConnection, Side}
use Rattle.client_base.specs.Written.{plain, writing}
use Rattle.client_base.specs.Handshakes.{takes_in}
use Rattle.exactly_once.specs.Story.{Story, with_side}
use Rattle.exactly_once.specs.Inside.Projections.{IsLike, GoesTo}
use Rattle.exactly_once.specs.Inside.AsSubscriber.{publish_before, as_subscriber}
use Rattle.exactly_once.proofs.subscribing.events.Handling.{handles_one}
use Rattle.exactly_once.proofs.subscribing.events.Receiving.{IsNext, counted, next_quiet, next_other}

-- a PUBLISH of QoS 2 is first
first_two : (d : Delivery) (dup : Bool) (id : ℕ) (p : Publication) (f : List (Forward Publication)) → d ≡ deliveries.ExactlyOnce dup id → publish_before d p f ≡ Forward.Publish id p ∷ f
first_two d dup id p f e = ap (λ (z : Delivery). publish_before z p f) e

-- one whose identifier is known is not accepted again
again : (h t : Handshake Publication) (id : ℕ) (p : Publication) (l : Transit Publication) → h.received id ≡ true
    → IsLike (record { items = h.items; accepted = h.accepted ++ []; received = h.received; transit = l }) t → IsLike (receiver_takes (Forward.Publish id p) h l) t
again h t id p l e like = by (h.received id) e
  where
    by : (b : Bool) → b ≡ true → IsLike (receiver_accepts id p b h l) t
    by true e = record { items = like.items; accepted = sym (append-nil h.accepted) ∙ like.accepted; received = like.received; transit = like.transit }
    by false e = absurd (both_ways false refl e)

-- any other is accepted
anew : (h t : Handshake Publication) (id : ℕ) (p : Publication) (l : Transit Publication) → h.received id ≡ false
    → IsLike (record { items = h.items; accepted = h.accepted ++ p ∷ []; received = λ j. (j == id) || h.received j; transit = l }) t → IsLike (receiver_takes (Forward.Publish id p) h l) t
anew h t id p l e like = by (h.received id) e
  where
    by : (b : Bool) → b ≡ false → IsLike (receiver_accepts id p b h l) t
    by true e = absurd (both_ways true e refl)
    by false e = record { items = like.items; accepted = like.accepted; received = like.received; transit = like.transit }

-- a PUBLISH of QoS 2 is taken
next_two : (limits : Limits) (s : Story) (κ : ClientConnection) (others : List ClientConnection) (p : Publish) (dup : Bool) (id : ℕ) → IsNext limits s κ others (packets.Publish p)
    → p.delivery ≡ deliveries.ExactlyOnce dup id
    → GoesTo (as_subscriber limits s) (as_subscriber limits (with_side s others (takes_in (deliveries.ExactlyOnce dup id) (publication_of p) (counted s.keeper κ))))
next_two limits s κ others p dup id i e = by (cases_Bool (has_id id s.keeper.received))
  where
    accepted_side : Side
    accepted_side =
        record {
          keeper = record s.keeper { received = id ∷ s.keeper.received };
          connection = record κ { handled = suc κ.handled; accepted = κ.accepted ++ publication_of p ∷ [] };
        }

    by : (has_id id s.keeper.received ≡ true) ⊎ (has_id id s.keeper.received ≡ false)
        → GoesTo (as_subscriber limits s) (as_subscriber limits (with_side s others (takes_in (deliveries.ExactlyOnce dup id) (publication_of p) (counted s.keeper κ))))
    by (inl h) =
        rw h (handles_one limits s κ others i.n (packets.Publish p) (writing (plain (packets.Pubrec id) ∷ []) (counted s.keeper κ)) (plain (packets.Pubrec id) ∷ [])
        (Forward.Publish id (publication_of p)) [] (λ j. has_id j s.keeper.received) i.shape i.first i.is_open i.taken i.next (λ f. first_two p.delivery dup id (publication_of p) f e) refl
        (record { client = refl; name = refl; taken = refl; handled = refl; written = refl; accepted_is = sym (append-nil κ.accepted); received_is = λ j. refl; stays_open = i.is_open })
        (λ l t like. again (as_subscriber limits s) t id (publication_of p) l h like))
    by (inr h) =
        rw h (handles_one limits s κ others i.n (packets.Publish p) (writing (plain (packets.Pubrec id) ∷ []) accepted_side) (plain (packets.Pubrec id) ∷ [])
        (Forward.Publish id (publication_of p)) (publication_of p ∷ []) (λ j. (j == id) || has_id j s.keeper.received) i.shape i.first i.is_open i.taken i.next
        (λ f. first_two p.delivery dup id (publication_of p) f e) refl
        (record { client = refl; name = refl; taken = refl; handled = refl; written = refl; accepted_is = refl; received_is = λ j. refl; stays_open = i.is_open })
        (λ l t like. anew (as_subscriber limits s) t id (publication_of p) l h like))

-- a PUBLISH, by its QoS
pub next_publish : (limits : Limits) (s : Story) (κ : ClientConnection) (others : List ClientConnection) (p : Publish) → IsNext limits s κ others (packets.Publish p)
    → GoesTo (as_subscriber limits s) (as_subscriber limits (with_side s others (takes_in p.delivery (publication_of p) (counted s.keeper κ))))
next_publish limits s κ others p i = by p.delivery refl
  where
    by : (d : Delivery) → p.delivery ≡ d → GoesTo (as_subscriber limits s) (as_subscriber limits (with_side s others (takes_in d (publication_of p) (counted s.keeper κ))))
    by deliveries.AtMostOnce e =
        next_quiet limits s κ others (packets.Publish p) i s.keeper.own s.keeper.releases s.keeper.requests (λ f. ap (λ (z : Delivery). publish_before z (publication_of p) f) e)
    by (deliveries.AtLeastOnce dup id) e =
        next_other limits s κ others (packets.Publish p) i s.keeper.own s.keeper.releases s.keeper.requests (plain (packets.Puback id) ∷ []) (λ f. ap (λ (z : Delivery). publish_before z (publication_of p) f) e) refl
    by (deliveries.ExactlyOnce dup id) e = next_two limits s κ others p dup id i e
