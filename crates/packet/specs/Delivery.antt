-- How a PUBLISH is delivered: QoS, DUP and Packet Identifier (MQTT 3.3.1, 3.3.2.2).
use Rattle.std.specs.Prelude.{ℕ, List, [], Option, Some, None, Result, Ok}
use Rattle.packet_base.specs.declared.stop.Stop.{Stop}
use Rattle.packet_base.specs.declared.header.DeliveryFlags.{DeliveryFlags}
use Rattle.packet_base.specs.declared.header.DeliveryFlags.TheVariants as flags
use Rattle.packet_base.specs.Spelling.{number, IsId}
use Rattle.packet_base.specs.Readers.{◌>>=◌, id_at}
use Rattle.packet_base.specs.declared.qos.QoS.{QoS}
use Rattle.packet_base.specs.declared.qos.QoS.TheVariants as qos_levels
use Rattle.packet.specs.declared.delivery.Delivery.{Delivery}
use Rattle.packet.specs.declared.delivery.Delivery.TheVariants as deliveries

-- the QoS of a delivery
abbrev pub delivery_qos : Delivery → QoS
delivery_qos deliveries.AtMostOnce = qos_levels.AtMostOnce
delivery_qos (deliveries.AtLeastOnce dup id) = qos_levels.AtLeastOnce
delivery_qos (deliveries.ExactlyOnce dup id) = qos_levels.ExactlyOnce

-- the identifier, if the QoS has one
abbrev pub id_of : Delivery → Option ℕ
id_of deliveries.AtMostOnce = None
id_of (deliveries.AtLeastOnce dup id) = Some id
id_of (deliveries.ExactlyOnce dup id) = Some id

-- DUP and QoS, as the first byte has them
abbrev pub delivery_flags : Delivery → DeliveryFlags
delivery_flags deliveries.AtMostOnce = flags.AtMostOnce
delivery_flags (deliveries.AtLeastOnce dup id) = flags.AtLeastOnce dup
delivery_flags (deliveries.ExactlyOnce dup id) = flags.ExactlyOnce dup

-- the bytes of the identifier (MQTT 3.3.2.2)
abbrev pub delivery_id : Delivery → List ℕ
delivery_id deliveries.AtMostOnce = []
delivery_id (deliveries.AtLeastOnce dup id) = number id
delivery_id (deliveries.ExactlyOnce dup id) = number id

-- the identifier, if there is one, is in its range
abbrev pub FitsDelivery : Delivery → Type 0
FitsDelivery deliveries.AtMostOnce = Unit {0}
FitsDelivery (deliveries.AtLeastOnce dup id) = IsId id
FitsDelivery (deliveries.ExactlyOnce dup id) = IsId id

-- the identifier if these flags have one, and the bytes after it
unfoldable pub delivery_at : DeliveryFlags → List ℕ → Result (Delivery × List ℕ) Stop
delivery_at flags.AtMostOnce bytes = Ok (deliveries.AtMostOnce, bytes)
delivery_at (flags.AtLeastOnce dup) bytes =
    id_at bytes >>= (λ id. Ok (deliveries.AtLeastOnce dup id.0, id.1))
delivery_at (flags.ExactlyOnce dup) bytes =
    id_at bytes >>= (λ id. Ok (deliveries.ExactlyOnce dup id.0, id.1))
