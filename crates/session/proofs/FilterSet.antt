-- What the calls of a map make of its entries is what happens to a session's subscriptions.
use Rattle.std.proofs.Common.{◌≡◌, ℕ, Bool, true, false, not, ◌||◌, if◌then◌else◌, List, [], ◌∷◌, ◌++◌, refl, ap, ◌∙◌, sym, Some, None, Option, Ok}
use Rattle.std.specs.Prelude.{bytes_eq, is_some}
use Rattle.std.proofs.lemmas.Bool.{or_parts}
use Rattle.std.specs.Map.{lookup}
use Rattle.indexmap.specs.IndexMap.{insert_entry}
use Rattle.packet_base.specs.declared.qos.QoS.{QoS}
use Rattle.session_base.specs.Counted.{check_form}
use Rattle.session_base.specs.Subscriptions.{GrantedSubscription, is_subscribed, with_subscription}

-- a filter is set in its place, or comes last
pub set_as_entry : (filter : List ℕ) (qos : QoS) (held : List GrantedSubscription) → insert_entry bytes_eq held filter qos ≡ with_subscription (filter, qos) held
set_as_entry filter qos [] = refl
set_as_entry filter qos (first ∷ others) =
    ap (λ rest. if bytes_eq filter first.0 then (first.0, qos) ∷ others else first ∷ rest) (set_as_entry filter qos others)

-- a filter is held if the map has it
pub held_is_found : (filter : List ℕ) (held : List GrantedSubscription) → is_some (lookup (bytes_eq filter) held) ≡ is_subscribed filter held
held_is_found filter [] = refl
held_is_found filter (first ∷ others) = by (bytes_eq filter first.0) (held_is_found filter others)
  where
    by : (b : Bool) → is_some (lookup (bytes_eq filter) others) ≡ is_subscribed filter others →
        is_some (if b then Some first.1 else lookup (bytes_eq filter) others) ≡ (b || is_subscribed filter others)
    by true rest = refl
    by false rest = rest

-- one that is held is never missing in the map
pub never_missed : (filter : List ℕ) (held : List GrantedSubscription) → lookup (bytes_eq filter) held ≡ None → is_subscribed filter held ≡ true → ⊥
never_missed filter held missed is =
    let none : is_some (lookup (bytes_eq filter) held) ≡ false = ap is_some missed in
    absurd (cc (none, held_is_found filter held, is))

-- a new filter comes last
pub new_comes_last : (filter : List ℕ) (qos : QoS) (held : List GrantedSubscription) → is_subscribed filter held ≡ false → with_subscription (filter, qos) held ≡ held ++ (filter, qos) ∷ []
new_comes_last filter qos [] new = refl
new_comes_last filter qos (first ∷ others) new =
    let parts = or_parts (bytes_eq filter first.0) (is_subscribed filter others) new in
    rw parts.0 (ap (λ rest. first ∷ rest) (new_comes_last filter qos others parts.1))

-- reading continues if the test is true
pub kept_where : (test : Bool) → {done : Unit {0}} → check_form test ≡ Ok done → test ≡ true
kept_where true e = refl
kept_where false e = absurd (cc)

-- what is not held is new
pub not_held : (held : Bool) → not held ≡ true → held ≡ false
not_held true e = absurd (cc)
not_held false e = refl
