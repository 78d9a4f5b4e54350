-- Packets of the broker, read as the forward direction of the handshake.
use Rattle.std.proofs.Common.{◌≡◌, List, [], ◌∷◌, ◌++◌, refl, ap, sym, ◌∙◌}
use Rattle.packet.specs.declared.delivery.Delivery.{Delivery}
use Rattle.packet.specs.declared.delivery.Delivery.TheVariants as deliveries
use Rattle.packet.specs.declared.packet.Packet.{Packet}
use Rattle.packet.specs.declared.packet.Packet.TheVariants as packets
use Rattle.session_base.specs.declared.publication.Publication.{Publication}
use Rattle.session_base.specs.Publication.{publication_of}
use Rattle.exactly_once.specs.Handshake.{Forward}
use Rattle.exactly_once.specs.Inside.AsSubscriber.{publish_before, forward_of}
use Rattle.exactly_once.proofs.subscribing.events.Handling.{forward_one, forward_first}

-- one packet in front of two lists
one_of_two : (packet : Packet) (f g : List (Forward Publication)) → forward_one packet (f ++ g) ≡ forward_one packet f ++ g
one_of_two (packets.Publish p) f g = by p.delivery
  where
    by : (d : Delivery) → publish_before d (publication_of p) (f ++ g) ≡ publish_before d (publication_of p) f ++ g
    by deliveries.AtMostOnce = refl
    by (deliveries.AtLeastOnce dup id) = refl
    by (deliveries.ExactlyOnce dup id) = refl
one_of_two (packets.Pubrel id) f g = refl
one_of_two _ f g = refl

-- what comes after comes after
pub forward_append : (ps qs : List Packet) → forward_of (ps ++ qs) ≡ forward_of ps ++ forward_of qs
forward_append [] qs = refl
forward_append (p ∷ ps) qs =
    forward_first p (ps ++ qs) ∙ ap (forward_one p) (forward_append ps qs) ∙ one_of_two p (forward_of ps) (forward_of qs) ∙ ap (λ l. l ++ forward_of qs) (sym (forward_first p ps))
