-- PUBLISH (MQTT 3.3).
use Rattle.std.specs.Prelude.{ℕ, Bool, IsTrue, List, ◌++◌, Result, Ok}
use Rattle.topics.specs.Text.{is_topic}
use Rattle.packet_base.specs.declared.stop.Stop.{Stop}
use Rattle.packet_base.specs.declared.header.DeliveryFlags.{DeliveryFlags}
use Rattle.packet_base.specs.Spelling.{text}
use Rattle.packet_base.specs.Readers.{◌>>=◌}
use Rattle.packet_base.specs.TopicFields.{topic_at}
use Rattle.packet.specs.declared.publish.Publish.{Publish}
use Rattle.packet.specs.Delivery.{delivery_id, FitsDelivery, delivery_at}

-- topic, identifier if the QoS has one, payload
abbrev pub publish_body : Publish → List ℕ
publish_body publish = text publish.topic ++ delivery_id publish.delivery ++ publish.payload

-- each field is in its range
abbrev pub FitsPublish : Publish → Type 0
FitsPublish publish = IsTrue (is_topic publish.topic) × FitsDelivery publish.delivery

-- a body after these flags, or its first fault; the payload is the rest of the body
unfoldable pub publish_of : DeliveryFlags → Bool → List ℕ → Result Publish Stop
publish_of flags retain body = do
  topic ← topic_at body
  delivery ← delivery_at flags topic.1
  Ok (record { topic = topic.0; delivery = delivery.0; retain = retain; payload = delivery.1 })
