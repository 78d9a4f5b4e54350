-- A publication that can be sent can be sent with every identifier, with DUP or without, and at every lower QoS.
use Rattle.std.proofs.Common.{◌≡◌, ℕ, ◌≤◌, Bool, false, List, [], ◌++◌, ◌+◌, suc, length, arith}
use Rattle.std.proofs.lemmas.List.{length-append}
use Rattle.packet_base.specs.Spelling.{IsId, number}
use Rattle.packet.specs.Spelling.{IsPacket, max_body}
use Rattle.packet.specs.declared.packet.Packet.TheVariants as packets
use Rattle.packet_base.specs.declared.qos.QoS.{QoS}
use Rattle.packet_base.specs.declared.qos.QoS.TheVariants as qos_levels
use Rattle.packet.specs.declared.publish.Publish.{Publish}
use Rattle.packet.specs.declared.delivery.Delivery.{Delivery}
use Rattle.packet.specs.declared.delivery.Delivery.TheVariants as deliveries
use Rattle.session_base.specs.declared.publication.Publication.{Publication}
use Rattle.session_base.specs.Publication.{publish_for, publication_of}
use Rattle.packet_base.specs.QoS.{lower_qos}
use Rattle.session_base.specs.InRange.{CanBeSent}

-- the publication with these parts
abbrev pub made : Bool → QoS → List ℕ → List ℕ → Publication
made retain qos topic payload = record { retain = retain; qos = qos; topic = topic; payload = payload }

-- how long a topic with an identifier and a payload is
spell_length : (id : ℕ) (topic payload : List ℕ) → length (topic ++ number id ++ payload) ≡ length topic + suc (suc (length payload))
spell_length id topic payload =
    let e = length-append (topic ++ number id) payload in
    let f : length (topic ++ number id) ≡ length topic + 2 = length-append topic (number id) in
    omega (arith, e, f)

-- without an identifier a body is shorter
shorter : (topic payload : List ℕ) → suc (suc (length (topic ++ number 1 ++ payload))) ≤ max_body → suc (suc (length (topic ++ [] ++ payload))) ≤ max_body
shorter topic payload h =
    let e = spell_length 1 topic payload in
    let f = length-append (topic ++ []) payload in let g : length (topic ++ []) ≡ length topic + 0 = length-append topic [] in
    omega (arith, e, f, g, h)

-- with one it is as long as with another
same_length : (id other : ℕ) (topic payload : List ℕ) → suc (suc (length (topic ++ number other ++ payload))) ≤ max_body → suc (suc (length (topic ++ number id ++ payload))) ≤ max_body
same_length id other topic payload h =
    let e = spell_length id topic payload in let f = spell_length other topic payload in omega (arith, e, f, h)

-- with RETAIN or without it
pub marked : (r s : Bool) (qos : QoS) (topic payload : List ℕ) → CanBeSent (made r qos topic payload) → CanBeSent (made s qos topic payload)
marked r s qos_levels.AtMostOnce topic payload h = h
marked r s qos_levels.AtLeastOnce topic payload h = h
marked r s qos_levels.ExactlyOnce topic payload h = h

-- at QoS 0, if it can be sent at another
at_most_once : (r : Bool) (qos : QoS) (topic payload : List ℕ) → CanBeSent (made r qos topic payload) → CanBeSent (made r qos_levels.AtMostOnce topic payload)
at_most_once r qos_levels.AtMostOnce topic payload h = h
at_most_once r qos_levels.AtLeastOnce topic payload h = ((h.0.0, tt), tt, shorter topic payload h.2)
at_most_once r qos_levels.ExactlyOnce topic payload h = ((h.0.0, tt), tt, shorter topic payload h.2)

-- an identifier takes two bytes at QoS 1 and at QoS 2
pub lower : (r : Bool) (q asked : QoS) (topic payload : List ℕ) → CanBeSent (made r q topic payload) → CanBeSent (made r (lower_qos q asked) topic payload)
lower r qos_levels.AtMostOnce qos_levels.AtMostOnce topic payload h = h
lower r qos_levels.AtMostOnce qos_levels.AtLeastOnce topic payload h = h
lower r qos_levels.AtMostOnce qos_levels.ExactlyOnce topic payload h = h
lower r qos_levels.AtLeastOnce qos_levels.AtMostOnce topic payload h = at_most_once r qos_levels.AtLeastOnce topic payload h
lower r qos_levels.AtLeastOnce qos_levels.AtLeastOnce topic payload h = h
lower r qos_levels.AtLeastOnce qos_levels.ExactlyOnce topic payload h = h
lower r qos_levels.ExactlyOnce qos_levels.AtMostOnce topic payload h = at_most_once r qos_levels.ExactlyOnce topic payload h
lower r qos_levels.ExactlyOnce qos_levels.AtLeastOnce topic payload h = h
lower r qos_levels.ExactlyOnce qos_levels.ExactlyOnce topic payload h = h

pub lower_asked : (r : Bool) (q asked : QoS) (topic payload : List ℕ) → CanBeSent (made r q topic payload) → CanBeSent (made r (lower_qos asked q) topic payload)
lower_asked r qos_levels.AtMostOnce qos_levels.AtMostOnce topic payload h = h
lower_asked r qos_levels.AtMostOnce qos_levels.AtLeastOnce topic payload h = h
lower_asked r qos_levels.AtMostOnce qos_levels.ExactlyOnce topic payload h = h
lower_asked r qos_levels.AtLeastOnce qos_levels.AtMostOnce topic payload h = at_most_once r qos_levels.AtLeastOnce topic payload h
lower_asked r qos_levels.AtLeastOnce qos_levels.AtLeastOnce topic payload h = h
lower_asked r qos_levels.AtLeastOnce qos_levels.ExactlyOnce topic payload h = h
lower_asked r qos_levels.ExactlyOnce qos_levels.AtMostOnce topic payload h = at_most_once r qos_levels.ExactlyOnce topic payload h
lower_asked r qos_levels.ExactlyOnce qos_levels.AtLeastOnce topic payload h = h
lower_asked r qos_levels.ExactlyOnce qos_levels.ExactlyOnce topic payload h = h

-- with any identifier
spelled_at : (dup : Bool) (id : ℕ) (r : Bool) (qos : QoS) (topic payload : List ℕ) → IsId id → CanBeSent (made r qos topic payload) →
    IsPacket (packets.Publish (publish_for dup id (made r qos topic payload)))
spelled_at dup id r qos_levels.AtMostOnce topic payload i h = h
spelled_at dup id r qos_levels.AtLeastOnce topic payload i h = ((h.0.0, i), tt, same_length id 1 topic payload h.2)
spelled_at dup id r qos_levels.ExactlyOnce topic payload i h = ((h.0.0, i), tt, same_length id 1 topic payload h.2)

pub spelled : (dup : Bool) (id : ℕ) (p : Publication) → IsId id → CanBeSent p → IsPacket (packets.Publish (publish_for dup id p))
spelled dup id p i h = spelled_at dup id p.retain p.qos p.topic p.payload i h

-- at QoS 0 there is no identifier
pub spelled_once : (p : Publication) → p.qos ≡ qos_levels.AtMostOnce → CanBeSent p → IsPacket (packets.Publish (publish_for false 0 p))
spelled_once p e h = by p.qos e h
  where
    by : (q : QoS) → q ≡ qos_levels.AtMostOnce → CanBeSent (made p.retain q p.topic p.payload) →
        IsPacket (packets.Publish (publish_for false 0 (made p.retain q p.topic p.payload)))
    by qos_levels.AtMostOnce e h = h
    by qos_levels.AtLeastOnce e h = absurd (cc)
    by qos_levels.ExactlyOnce e h = absurd (cc)

-- what a PUBLISH of the log carries can be sent
pub carried : (p : Publish) → IsPacket (packets.Publish p) → CanBeSent (publication_of p)
carried p h = by p.delivery h
  where
    by : (d : Delivery) → IsPacket (packets.Publish (record { topic = p.topic; delivery = d; retain = p.retain; payload = p.payload })) →
        CanBeSent (publication_of (record { topic = p.topic; delivery = d; retain = p.retain; payload = p.payload }))
    by deliveries.AtMostOnce h = h
    by (deliveries.AtLeastOnce dup id) h = ((h.0.0, (omega arith, omega arith)), tt, same_length 1 id p.topic p.payload h.2)
    by (deliveries.ExactlyOnce dup id) h = ((h.0.0, (omega arith, omega arith)), tt, same_length 1 id p.topic p.payload h.2)
