-- A PUBLISH's body that is read is spelled so, and one that is spelled is read.
use Rattle.std.proofs.Common.{◌≡◌, ℕ, ◌^◌, ◌<◌, Bool, true, List, ◌++◌, Ok, refl, ap, ◌∙◌, append_assoc}
use Rattle.std.specs.Prelude.{IfOk}
use Rattle.topics.specs.Text.{is_topic}
use Rattle.packet_base.specs.declared.header.DeliveryFlags.{DeliveryFlags}
use Rattle.packet_base.specs.declared.header.DeliveryFlags.TheVariants as flags
use Rattle.packet_base.specs.Spelling.{number, text}
use Rattle.packet_base.specs.Readers.{AreBytes, id_at}
use Rattle.packet_base.specs.TopicFields.{topic_at}
use Rattle.packet_base.proofs.Steps.{then_if}
use Rattle.packet_base.proofs.FieldsFound.{Splits, Splits-then, id_found, topic_found}
use Rattle.packet_base.proofs.FieldsAgain.{id_again, topic_again}
use Rattle.packet.specs.declared.delivery.Delivery.{Delivery}
use Rattle.packet.specs.declared.delivery.Delivery.TheVariants as deliveries
use Rattle.packet.specs.declared.publish.Publish.{Publish}
use Rattle.packet.specs.Delivery.{delivery_flags, delivery_id, FitsDelivery, delivery_at}
use Rattle.packet.specs.Publish.{publish_body, FitsPublish, publish_of}

-- the delivery that these flags and these bytes give
record IsDelivery (f : DeliveryFlags) (bytes : List ℕ) (d : Delivery) (rest : List ℕ) : Type 0 where
  splits : Splits bytes (delivery_id d) rest
  said : delivery_flags d ≡ f
  fits : FitsDelivery d

delivery_found : (f : DeliveryFlags) (bytes : List ℕ) → AreBytes bytes → IfOk (delivery_at f bytes) (λ x. IsDelivery f bytes x.0 x.1)
unfolding delivery_at
delivery_found flags.AtMostOnce bytes fits = record { splits = record { parts = refl; left = fits }; said = refl; fits = tt }
delivery_found (flags.AtLeastOnce dup) bytes fits =
    let Q : Delivery × List ℕ → Type 0 = λ x. IsDelivery (flags.AtLeastOnce dup) bytes x.0 x.1 in
    then_if (id_at bytes) _ (λ x. Splits bytes (number x.0) x.1 × (x.0 < 2 ^ 16) × (0 < x.0)) Q (id_found bytes fits)
    (λ id h. record { splits = h.0; said = refl; fits = (h.2, h.1) })
delivery_found (flags.ExactlyOnce dup) bytes fits =
    let Q : Delivery × List ℕ → Type 0 = λ x. IsDelivery (flags.ExactlyOnce dup) bytes x.0 x.1 in
    then_if (id_at bytes) _ (λ x. Splits bytes (number x.0) x.1 × (x.0 < 2 ^ 16) × (0 < x.0)) Q (id_found bytes fits)
    (λ id h. record { splits = h.0; said = refl; fits = (h.2, h.1) })

delivery_again : (d : Delivery) (rest : List ℕ) → FitsDelivery d → delivery_at (delivery_flags d) (delivery_id d ++ rest) ≡ Ok (d, rest)
unfolding delivery_at
delivery_again deliveries.AtMostOnce rest fits = refl
delivery_again (deliveries.AtLeastOnce dup id) rest fits = rw (id_again id rest fits.0 fits.1) refl
delivery_again (deliveries.ExactlyOnce dup id) rest fits = rw (id_again id rest fits.0 fits.1) refl

-- the PUBLISH that these flags and this body give
pub record IsPublish (f : DeliveryFlags) (retain : Bool) (body : List ℕ) (p : Publish) : Type 0 where
  pub spelled : body ≡ publish_body p
  pub flags_said : delivery_flags p.delivery ≡ f
  pub retain_said : p.retain ≡ retain
  pub fits : FitsPublish p

pub publish_found : (f : DeliveryFlags) (retain : Bool) (body : List ℕ) → AreBytes body → IfOk (publish_of f retain body) (IsPublish f retain body)
unfolding publish_of
publish_found f retain body fits =
    let Q : Publish → Type 0 = IsPublish f retain body in
    then_if (topic_at body) _ (λ x. Splits body (text x.0) x.1 × (is_topic x.0 ≡ true)) Q (topic_found body fits) (λ topic h.
    then_if (delivery_at f topic.1) _ (λ x. IsDelivery f topic.1 x.0 x.1) Q (delivery_found f topic.1 h.0.left) (λ d k.
    record {
      spelled = (Splits-then body (text topic.0) topic.1 (delivery_id d.0) d.1 h.0 k.splits).parts;
      flags_said = k.said;
      retain_said = refl;
      fits = (h.1, k.fits);
    }))

pub publish_again : (p : Publish) → FitsPublish p → publish_of (delivery_flags p.delivery) p.retain (publish_body p) ≡ Ok p
unfolding publish_of
publish_again p fits =
    let regrouped : publish_body p ≡ text p.topic ++ (delivery_id p.delivery ++ p.payload) = append_assoc (text p.topic) (delivery_id p.delivery) p.payload in
    ap (publish_of (delivery_flags p.delivery) p.retain) regrouped
    ∙ rw (topic_again p.topic (delivery_id p.delivery ++ p.payload) fits.0, delivery_again p.delivery p.payload fits.1) refl
