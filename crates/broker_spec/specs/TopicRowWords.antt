-- Definitions for the worked examples on several topics and filters.
use Rattle.std.specs.Prelude.{ℕ, Bool, true, false, List, map, codes}
use Rattle.packet_base.specs.declared.qos.QoS.{QoS}
use Rattle.packet.specs.declared.delivery.Delivery.{Delivery}
use Rattle.packet.specs.declared.subscribe.Subscription.{Subscription}
use Rattle.packet.specs.declared.packet.Packet.{Packet}
use Rattle.packet.specs.declared.packet.Packet.TheVariants as packets
use Rattle.session_base.specs.Publication.{delivery_with}
use Rattle.broker_spec.specs.declared.command.Command.{Command}
use Rattle.broker_spec.specs.RowWords.{gets}

-- a PUBLISH on this topic, with RETAIN and payload
abbrev pub publish_on : List ℕ → Delivery → Bool → List ℕ → Packet
publish_on topic delivery retain payload =
    packets.Publish
    (record { topic = topic; delivery = delivery; retain = retain; payload = payload })

-- filters, all requested at this QoS
abbrev pub filters_at : QoS → List (List ℕ) → List Subscription
filters_at qos = map (λ filter. record { filter = filter; qos = qos })

-- a SUBSCRIBE to these filters
abbrev pub subscribe_row : ℕ → List Subscription → Packet
subscribe_row id filters = packets.Subscribe (record { id = id; filters = filters })

-- a sends x on each of these topics at this QoS on connection 2, with RETAIN 1 and the identifier 1
abbrev pub publish_row : QoS → List (List ℕ) → List Command
publish_row qos =
    map (λ topic. gets 2 (publish_on topic (delivery_with qos false 1) true (codes "x")))
