-- SUBSCRIBE (MQTT 3.8).
use Rattle.std.specs.Prelude.{ℕ, IsTrue, List, [], ◌∷◌, ◌++◌, Result, Ok}
use Rattle.std.specs.List.{flat_map, All}
use Rattle.topics.specs.Text.{is_filter}
use Rattle.packet_base.specs.declared.stop.Stop.{Stop}
use Rattle.packet_base.specs.Spelling.{number, text, IsId}
use Rattle.packet_base.specs.Readers.{◌>>=◌, byte_at, id_at}
use Rattle.packet_base.specs.TopicFields.{filter_at}
use Rattle.packet_base.specs.Lists.{list_of}
use Rattle.packet.specs.declared.subscribe.Subscription.{Subscription}
use Rattle.packet.specs.declared.subscribe.Subscribe.{Subscribe}
use Rattle.packet_base.specs.QoS.{qos_number, qos_of}

-- a filter and its requested QoS (MQTT 3.8.3)
abbrev pub subscription : Subscription → List ℕ
subscription asked = text asked.filter ++ qos_number asked.qos ∷ []

-- identifier, filters
abbrev pub subscribe_body : Subscribe → List ℕ
subscribe_body subscribe = number subscribe.id ++ flat_map subscription subscribe.filters

-- each field is in its range
abbrev pub FitsSubscription : Subscription → Type 0
FitsSubscription asked = IsTrue (is_filter asked.filter)

-- the identifier and each filter are in their ranges
abbrev pub FitsSubscribe : Subscribe → Type 0
FitsSubscribe subscribe = IsId subscribe.id × All FitsSubscription subscribe.filters

-- a filter with its QoS, and the bytes after it
unfoldable pub subscription_at : List ℕ → Result (Subscription × List ℕ) Stop
subscription_at bytes = do
  filter ← filter_at bytes
  number ← byte_at filter.1
  qos ← qos_of number.0
  Ok (record { filter = filter.0; qos = qos }, number.1)

-- a body, or its first fault
unfoldable pub subscribe_of : List ℕ → Result Subscribe Stop
subscribe_of body = do
  id ← id_at body
  filters ← list_of subscription_at id.1
  Ok (record { id = id.0; filters = filters })
