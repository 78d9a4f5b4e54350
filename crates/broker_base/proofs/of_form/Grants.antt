-- The filters that a SUBSCRIBE is granted: no more than a session may hold, and no more entries than it has room for.
use Rattle.std.proofs.Common.{◌≡◌, ℕ, ◌+◌, ◌-◌, ◌≤◌, suc, Bool, true, false, not, ◌&&◌, ◌||◌, nat_lt, nat_le, if◌then◌else◌, List, [], ◌∷◌, ◌++◌, length, map, refl, ap, ◌∙◌, arith}
use Rattle.std.specs.Prelude.{bytes_eq}
use Rattle.std.proofs.lemmas.List.{length-append}
use Rattle.std.proofs.lemmas.List.Elements.{filter-append}
use Rattle.packet.specs.declared.subscribe.Subscription.{Subscription}
use Rattle.retained.specs.Retained.{RetainedTopics}
use Rattle.session_base.specs.declared.publication.Publication.{Publication}
use Rattle.session_base.specs.Publication.{is_answered}
use Rattle.session_base.specs.Subscriptions.{GrantedSubscription, is_subscribed, with_subscription, with_subscriptions, without_filter, without_filters}
use Rattle.broker_spec.specs.Place.{Limits}
use Rattle.broker_spec.specs.Subscriptions.{as_granted, granted_of}
use Rattle.broker_spec.specs.Entries.{queued, copies_for, copies_for_all}
use Rattle.broker_spec.specs.Marks.{is_one_too_many, entries_for, grants}
use Rattle.broker_base.proofs.of_form.Queues.{fewer}

-- ---- entries

queued_both : (xs ys : List Publication) → length (queued (xs ++ ys)) ≡ length (queued xs) + length (queued ys)
queued_both xs ys =
    ap (λ (zs : List Publication). length zs) (filter-append (λ (p : Publication). is_answered p.qos) xs ys) ∙ length-append (queued xs) (queued ys)

-- the copies for the granted filters have room
pub grants_have_room : (limits : Limits) (content : RetainedTopics) (held : List GrantedSubscription) (room : ℕ) (filters : List Subscription) →
    length (queued (copies_for_all content (granted_of filters (grants limits content held room filters)))) ≤ room
grants_have_room limits content held room [] = omega arith
grants_have_room limits content held room (new ∷ more) =
    elim (is_one_too_many limits held new || nat_lt room (entries_for content new)) as (λ (b : Bool).
    (is_one_too_many limits held new || nat_lt room (entries_for content new)) ≡ b →
    length (queued (copies_for_all content (granted_of (new ∷ more)
    (if b then false ∷ grants limits content held room more
    else true ∷ grants limits content (with_subscription (as_granted new) held) (room - entries_for content new) more)))) ≤ room) [
      | true ↦ λ e. grants_have_room limits content held room more
      | false ↦ λ e.
          let k = grants_have_room limits content (with_subscription (as_granted new) held) (room - entries_for content new) more in
          let both = queued_both (copies_for content new)
          (copies_for_all content (granted_of more (grants limits content (with_subscription (as_granted new) held) (room - entries_for content new) more))) in
          let fits = second_no (is_one_too_many limits held new) (nat_lt room (entries_for content new)) e in
          let few : entries_for content new ≤ room = grind (arith, fits) in
          omega (arith, k, both, few)
    ] refl
  where
    second_no : (a b : Bool) → (a || b) ≡ false → b ≡ false
    second_no true b e = absurd (cc)
    second_no false b e = e

-- ---- filters

-- a filter that is held takes its own place
pub one_more : (new : GrantedSubscription) (held : List GrantedSubscription) → length (with_subscription new held) ≤ suc (length held)
one_more new [] = omega arith
one_more new (old ∷ others) =
    elim (bytes_eq new.0 old.0) as (λ (b : Bool). length (if b then (old.0, new.1) ∷ others else old ∷ with_subscription new others) ≤ suc (suc (length others))) [
      | true ↦ omega arith
      | false ↦ (let k = one_more new others in omega (arith, k))
    ]

same_many : (new : GrantedSubscription) (held : List GrantedSubscription) → is_subscribed new.0 held ≡ true → length (with_subscription new held) ≤ length held
same_many new [] e = absurd (cc)
same_many new (old ∷ others) e =
    elim (bytes_eq new.0 old.0) as (λ (b : Bool). (b || is_subscribed new.0 others) ≡ true →
    length (if b then (old.0, new.1) ∷ others else old ∷ with_subscription new others) ≤ suc (length others)) [
      | true ↦ λ e. omega arith
      | false ↦ λ e. (let k = same_many new others e in omega (arith, k))
    ] e

one_within : (limits : Limits) (held : List GrantedSubscription) (new : Subscription) → is_one_too_many limits held new ≡ false → length held ≤ limits.subscriptions →
    length (with_subscription (as_granted new) held) ≤ limits.subscriptions
one_within limits held new e few =
    elim (is_subscribed new.filter held) as (λ (b : Bool). is_subscribed new.filter held ≡ b → (not b && nat_le limits.subscriptions (length held)) ≡ false →
    length (with_subscription (as_granted new) held) ≤ limits.subscriptions) [
      | true ↦ λ h e. (let k = same_many (as_granted new) held h in omega (arith, k, few))
      | false ↦ λ h e. (let k = one_more (as_granted new) held in let less : suc (length held) ≤ limits.subscriptions = grind (arith, e) in omega (arith, k, less))
    ] refl e

-- the granted filters are no more than a session may hold
pub grants_stay_few : (limits : Limits) (content : RetainedTopics) (held : List GrantedSubscription) (room : ℕ) (filters : List Subscription) →
    length held ≤ limits.subscriptions →
    length (with_subscriptions (map as_granted (granted_of filters (grants limits content held room filters))) held) ≤ limits.subscriptions
grants_stay_few limits content held room [] few = few
grants_stay_few limits content held room (new ∷ more) few =
    elim (is_one_too_many limits held new || nat_lt room (entries_for content new)) as (λ (b : Bool).
    (is_one_too_many limits held new || nat_lt room (entries_for content new)) ≡ b →
    length (with_subscriptions (map as_granted (granted_of (new ∷ more)
    (if b then false ∷ grants limits content held room more
    else true ∷ grants limits content (with_subscription (as_granted new) held) (room - entries_for content new) more))) held) ≤ limits.subscriptions) [
      | true ↦ λ e. grants_stay_few limits content held room more few
      | false ↦ λ e.
          grants_stay_few limits content (with_subscription (as_granted new) held) (room - entries_for content new) more
          (one_within limits held new (first_no (is_one_too_many limits held new) (nat_lt room (entries_for content new)) e) few)
    ] refl
  where
    first_no : (a b : Bool) → (a || b) ≡ false → a ≡ false
    first_no true b e = absurd (cc)
    first_no false b e = refl

-- and what is given up leaves no more than there were
pub given_up_few : (filters : List (List ℕ)) (held : List GrantedSubscription) → length (without_filters filters held) ≤ length held
given_up_few [] held = omega arith
given_up_few (one ∷ filters) held =
    let k = given_up_few filters (without_filter one held) in
    let f = fewer (λ (other : GrantedSubscription). not (bytes_eq one other.0)) held in omega (arith, k, f)
