-- Publications, and the packets that carry them (MQTT 3.3).
use Rattle.std.specs.Prelude.{ℕ, Bool, true, false}
use Rattle.packet_base.specs.declared.qos.QoS.{QoS}
use Rattle.packet_base.specs.declared.qos.QoS.TheVariants as qos_levels
use Rattle.packet.specs.declared.delivery.Delivery.{Delivery}
use Rattle.packet.specs.declared.delivery.Delivery.TheVariants as deliveries
use Rattle.packet.specs.declared.publish.Publish.{Publish}
use Rattle.packet.specs.Delivery.{delivery_qos}
use Rattle.session_base.specs.declared.publication.Publication.{Publication}

-- the publication that a PUBLISH carries
abbrev pub publication_of : Publish → Publication
publication_of publish =
    record {
      retain = publish.retain;
      qos = delivery_qos publish.delivery;
      topic = publish.topic;
      payload = publish.payload;
    }

-- the delivery of a publication at this QoS, with DUP and identifier if the QoS has them
abbrev pub delivery_with : QoS → Bool → ℕ → Delivery
delivery_with qos_levels.AtMostOnce dup id = deliveries.AtMostOnce
delivery_with qos_levels.AtLeastOnce dup id = deliveries.AtLeastOnce dup id
delivery_with qos_levels.ExactlyOnce dup id = deliveries.ExactlyOnce dup id

-- the PUBLISH that carries it
abbrev pub publish_for : Bool → ℕ → Publication → Publish
publish_for dup id publication =
    record {
      topic = publication.topic;
      delivery = delivery_with publication.qos dup id;
      retain = publication.retain;
      payload = publication.payload;
    }

-- whether a publication of this QoS is queued: QoS 1 and 2 are acknowledged
abbrev pub is_answered : QoS → Bool
is_answered qos_levels.AtMostOnce = false
is_answered qos_levels.AtLeastOnce = true
is_answered qos_levels.ExactlyOnce = true

-- whether a QoS is 1: PUBACK ends its handshake
abbrev pub is_qos1 : QoS → Bool
is_qos1 qos_levels.AtMostOnce = false
is_qos1 qos_levels.AtLeastOnce = true
is_qos1 qos_levels.ExactlyOnce = false
