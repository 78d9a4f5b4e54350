-- The content of an index of subscriptions: which client subscribed to which filter, at which QoS
-- (MQTT 3.8.4).
use Rattle.std.specs.Prelude.{ℕ, ◌&&◌, if◌then◌else◌, List, bytes_eq, Option, Some, None}
use Rattle.std.specs.Map.{update_all}
use Rattle.packet_base.specs.declared.qos.QoS.{QoS}

-- for each client and filter the QoS of its subscription, or `None`
abbrev pub Content : Type 0
Content = List ℕ → List ℕ → Option QoS

-- no subscription at all
abbrev pub no_subscriptions : Content
no_subscriptions client filter = None

-- one subscription is set; it replaces an identical one (MQTT 3.8.4)
abbrev pub with_row : Content → List ℕ → List ℕ → QoS → Content
with_row content client filter qos other_client other_filter =
    if bytes_eq client other_client && bytes_eq filter other_filter then Some qos
    else content other_client other_filter

-- one subscription is removed: the filter with the same characters (MQTT 3.10.4)
abbrev pub without_row : Content → List ℕ → List ℕ → Content
without_row content client filter other_client other_filter =
    if bytes_eq client other_client && bytes_eq filter other_filter then None
    else content other_client other_filter

-- all subscriptions of the client are removed
abbrev pub without_client : Content → List ℕ → Content
without_client content client other filter =
    if bytes_eq client other then None else content other filter

-- the client's subscriptions are replaced by these
abbrev pub with_client_filters : Content → List ℕ → (List ℕ → Option QoS) → Content
with_client_filters content client asked other filter =
    if bytes_eq client other then asked filter else content other filter

-- the QoS of each text in a list of rows; of several rows of a text the last one counts
abbrev pub last_qos_in : List (List ℕ × QoS) → List ℕ → Option QoS
last_qos_in rows = update_all bytes_eq (λ _. None) rows
