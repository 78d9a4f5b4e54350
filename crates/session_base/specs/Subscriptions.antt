-- The subscriptions of a session, and at which QoS it gets a publication (MQTT 3.3.5, 3.8.4,
-- 3.10.4).
use Rattle.std.specs.Prelude.{ℕ, Bool, not, if◌then◌else◌, List, [], ◌∷◌, filter, bytes_eq, Option}
use Rattle.std.specs.Prelude.{Some, None}
use Rattle.std.specs.List.{list_any}
use Rattle.topics.specs.Matching.{is_match}
use Rattle.packet_base.specs.declared.qos.QoS.{QoS}
use Rattle.packet_base.specs.QoS.{greater_qos}

-- a subscription of a session: its filter, and the QoS of its last grant
abbrev pub GrantedSubscription : Type 0
GrantedSubscription = List ℕ × QoS

-- whether the session has this filter, compared character by character
abbrev pub is_subscribed : List ℕ → List GrantedSubscription → Bool
is_subscribed filter = list_any (λ granted. bytes_eq filter granted.0)

-- an identical filter keeps its place and gets the new QoS, a new one is appended (MQTT 3.8.4)
abbrev pub with_subscription : GrantedSubscription → List GrantedSubscription →
    List GrantedSubscription
with_subscription new (old ∷ others) =
    if bytes_eq new.0 old.0 then (old.0, new.1) ∷ others else old ∷ with_subscription new others
with_subscription new [] = new ∷ []

-- the subscriptions after these are set one by one
abbrev pub with_subscriptions : List GrantedSubscription → List GrantedSubscription →
    List GrantedSubscription
with_subscriptions (new ∷ more) granted = with_subscriptions more (with_subscription new granted)
with_subscriptions [] granted = granted

-- a filter is removed, compared character by character (MQTT 3.10.4)
abbrev pub without_filter : List ℕ → List GrantedSubscription → List GrantedSubscription
without_filter given_up = filter (λ granted. not (bytes_eq given_up granted.0))

-- the subscriptions after these filters are removed one by one
abbrev pub without_filters : List (List ℕ) → List GrantedSubscription → List GrantedSubscription
without_filters (given_up ∷ more) granted = without_filters more (without_filter given_up granted)
without_filters [] granted = granted

-- the greatest QoS of the filters that match the topic (MQTT 3.3.5)
abbrev pub granted_qos : List ℕ → List GrantedSubscription → Option QoS
granted_qos topic (granted ∷ others) =
    if is_match granted.0 topic then Some (greater_qos granted.1 (granted_qos topic others))
    else granted_qos topic others
granted_qos topic [] = None
