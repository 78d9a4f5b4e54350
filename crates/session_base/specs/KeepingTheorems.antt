-- What calls preserve of subscriptions and of received identifiers: each filter once, ascending
-- identifiers (MQTT 2.3.1, 3.8.4).
use Rattle.std.specs.Prelude.{◌≡◌, ℕ, false, if◌then◌else◌, List, [], ◌∷◌, ◌++◌, map}
use Rattle.std.specs.List.Sorted.{IsStrictlySortedBy}
use Rattle.std.specs.Ordering.{nat_cmp}
use Rattle.session_base.specs.Identifiers.{with_id, without_id}
use Rattle.session_base.specs.Subscriptions.{GrantedSubscription, is_subscribed, with_subscription, without_filter}

-- no filter occurs twice
abbrev pub AreFiltersApart : List GrantedSubscription → Type 0
AreFiltersApart (granted ∷ others) =
    (is_subscribed granted.0 others ≡ false) × AreFiltersApart others
AreFiltersApart [] = Unit {0}

-- granting and removing a filter preserves this
abbrev pub FiltersStayApart : Type 0
FiltersStayApart =
    (granted : List GrantedSubscription) → AreFiltersApart granted →
    ((new : GrantedSubscription) → AreFiltersApart (with_subscription new granted))
    × ((given_up : List ℕ) → AreFiltersApart (without_filter given_up granted))

-- received identifiers stay in ascending order, each once
abbrev pub ReceivedStayRising : Type 0
ReceivedStayRising =
    (id : ℕ) → (ids : List ℕ) → IsStrictlySortedBy nat_cmp ids →
    IsStrictlySortedBy nat_cmp (with_id id ids) × IsStrictlySortedBy nat_cmp (without_id id ids)

-- the filters alone, in order
abbrev pub filters_of : List GrantedSubscription → List (List ℕ)
filters_of = map (λ granted. granted.0)

-- a filter that is granted again keeps its place, and a new one is appended (MQTT 3.8.4)
abbrev pub FiltersKeepTheirOrder : Type 0
FiltersKeepTheirOrder =
    (new : GrantedSubscription) → (granted : List GrantedSubscription) →
    filters_of (with_subscription new granted)
    ≡ (if is_subscribed new.0 granted then filters_of granted else filters_of granted ++ new.0 ∷ [])
