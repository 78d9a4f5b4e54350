-- In a session that has a form, each filter, identifier and entry may be where it is.
use Rattle.std.proofs.Common.{◌≡◌, ℕ, Bool, true, false, not, ◌&&◌, ◌||◌, ◌==◌, nat_lt, ◌⊎◌, inl, inr, Option, Some, None, List, [], ◌∷◌, ◌++◌, refl, ap, ◌∙◌, arith}
use Rattle.std.specs.Prelude.{bytes_eq}
use Rattle.std.specs.List.{AllByRecursion, last_or}
use Rattle.std.specs.List.Sorted.{IsStrictlySortedBy}
use Rattle.std.specs.declared.cmp.Ordering.TheVariants.{Less}
use Rattle.std.specs.Ordering.{nat_cmp}
use Rattle.std.proofs.lemmas.Bool.{or_parts, or_from}
use Rattle.lists.specs.Lists.{has_id, IsDistinct}
use Rattle.session_base.specs.declared.publication.Publication.{Publication}
use Rattle.session_base.specs.Subscriptions.{GrantedSubscription, is_subscribed}
use Rattle.session_base.specs.KeepingTheorems.{AreFiltersApart}
use Rattle.session_base.specs.OrderTheorems.{NoneReleased, IsReleasedFirst}
use Rattle.session_base.specs.Queue.{Flight, ids_of, is_released}
use Rattle.session_base.proofs.FiltersApart.{turned}
use Rattle.session_base.specs.Counted.{last_of}
use Rattle.session_base.specs.Form.{is_new_filter, is_above_last, is_above, was_released, may_follow, anything}
use Rattle.session_base.proofs.Counted.{AllFollow}

-- one put last is the last
pub last_is : {A : Type 0} (o : Option A) (front : List A) (one : A) → last_or o (front ++ one ∷ []) ≡ Some one
last_is o [] one = refl
last_is o (first ∷ front) one = last_is (Some first) front one

-- ---- filters

-- none of these is held in front
abbrev NoneHeld : List GrantedSubscription → List GrantedSubscription → Type 0
NoneHeld front held = AllByRecursion (λ (one : GrantedSubscription). is_subscribed one.0 front ≡ false) held

held_after : (f : List ℕ) (front : List GrantedSubscription) (one : GrantedSubscription) → is_subscribed f front ≡ false → bytes_eq f one.0 ≡ false → is_subscribed f (front ++ one ∷ []) ≡ false
held_after f [] one e k = rw k refl
held_after f (first ∷ front) one e k =
    let parts = or_parts (bytes_eq f first.0) (is_subscribed f front) e in
    or_from (bytes_eq f first.0) (is_subscribed f (front ++ one ∷ [])) parts.0 (held_after f front one parts.1 k)

none_held : (front : List GrantedSubscription) (one : GrantedSubscription) (more : List GrantedSubscription) → is_subscribed one.0 more ≡ false → NoneHeld front more → NoneHeld (front ++ one ∷ []) more
none_held front one [] e h = tt
none_held front one (next ∷ more) e h =
    let parts = or_parts (bytes_eq one.0 next.0) (is_subscribed one.0 more) e in
    (held_after next.0 front one h.0 (turned one.0 next.0 parts.0), none_held front one more parts.1 h.1)

filters_from : (front held : List GrantedSubscription) → AreFiltersApart held → NoneHeld front held → AllFollow is_new_filter front held
filters_from front [] apart none = tt
filters_from front (one ∷ more) apart none = (ap not none.0, filters_from (front ++ one ∷ []) more apart.1 (none_held front one more apart.0 none.1))

none_at_first : (held : List GrantedSubscription) → NoneHeld [] held
none_at_first [] = tt
none_at_first (one ∷ more) = (refl, none_at_first more)

pub filters_follow : (held : List GrantedSubscription) → AreFiltersApart held → AllFollow is_new_filter [] held
filters_follow held apart = filters_from [] held apart (none_at_first held)

-- ---- received identifiers

less : (i j : ℕ) → nat_cmp i j ≡ Less → nat_lt i j ≡ true
less i j e = grind (arith, e)

-- the first of these may come after those in front
abbrev MayBegin : List ℕ → List ℕ → Type 0
MayBegin front (id ∷ ids) = is_above front id ≡ true
MayBegin front [] = Unit {0}

rising_from : (front ids : List ℕ) → MayBegin front ids → IsStrictlySortedBy nat_cmp ids → AllFollow is_above front ids
unfolding IsStrictlySortedBy
rising_from front [] first h = tt
rising_from front (id ∷ ids) first h = (first, rising_from (front ++ id ∷ []) ids (next ids h.0) h.1)
  where
    next : (ids : List ℕ) → AllByRecursion (λ other. nat_cmp id other ≡ Less) ids → MayBegin (front ++ id ∷ []) ids
    next [] h = tt
    next (other ∷ ids) h = ap (λ (o : Option ℕ). is_above_last o other) (last_is None front id) ∙ less id other h.0

pub received_follow : (ids : List ℕ) → IsStrictlySortedBy nat_cmp ids → AllFollow is_above [] ids
received_follow [] h = tt
received_follow (id ∷ ids) h = rising_from [] (id ∷ ids) refl h

-- ---- entries

pub id_turned : (i j : ℕ) → (i == j) ≡ false → (j == i) ≡ false
id_turned i j e = grind arith

abbrev NoneThere : List Flight → List Flight → Type 0
NoneThere front flights = AllByRecursion (λ (flight : Flight). has_id flight.0 (ids_of front) ≡ false) flights

there_after : (id : ℕ) (front : List Flight) (one : Flight) → has_id id (ids_of front) ≡ false → (id == one.0) ≡ false → has_id id (ids_of (front ++ one ∷ [])) ≡ false
there_after id [] one e k = rw k refl
there_after id (first ∷ front) one e k =
    let parts = or_parts (id == first.0) (has_id id (ids_of front)) e in
    or_from (id == first.0) (has_id id (ids_of (front ++ one ∷ []))) parts.0 (there_after id front one parts.1 k)

none_there : (front : List Flight) (one : Flight) (more : List Flight) → has_id one.0 (ids_of more) ≡ false → NoneThere front more → NoneThere (front ++ one ∷ []) more
none_there front one [] e h = tt
none_there front one (next ∷ more) e h =
    let parts = or_parts (one.0 == next.0) (has_id one.0 (ids_of more)) e in
    (there_after next.0 front one h.0 (id_turned one.0 next.0 parts.0), none_there front one more parts.1 h.1)

-- released ones may still come, or none of these is released
abbrev Order : List Flight → List Flight → Type 0
Order front flights = ((was_released (last_of front) ≡ true) × IsReleasedFirst flights) ⊎ NoneReleased flights

may : (there released last : Bool) → there ≡ false → (released ≡ false) ⊎ (last ≡ true) → (not there && (not released || last)) ≡ true
may there released last e (inl f) = rw (e, f) refl
may there false last e (inr f) = rw e refl
may there true last e (inr f) = rw (e, f) refl

flights_from : (front flights : List Flight) → NoneThere front flights → IsDistinct (ids_of flights) → Order front flights → AllFollow may_follow front flights
flights_from front [] none distinct order = tt
flights_from front (one ∷ more) none distinct order = by order
    (λ next. flights_from (front ++ one ∷ []) more (none_there front one more distinct.0 none.1) distinct.1 next)
  where
    released_there : is_released one ≡ true → was_released (last_of (front ++ one ∷ [])) ≡ true
    released_there e = ap was_released (last_is None front one) ∙ e

    by : Order front (one ∷ more) → (Order (front ++ one ∷ []) more → AllFollow may_follow (front ++ one ∷ []) more) → AllFollow may_follow front (one ∷ more)
    by (inl (last, inl (released, rest))) follow =
        (may (has_id one.0 (ids_of front)) (is_released one) (was_released (last_of front)) none.0 (inr last), follow (inl (released_there released, rest)))
    by (inl (last, inr rest)) follow =
        (may (has_id one.0 (ids_of front)) (is_released one) (was_released (last_of front)) none.0 (inr last), follow (inr rest.1))
    by (inr rest) follow =
        (may (has_id one.0 (ids_of front)) (is_released one) (was_released (last_of front)) none.0 (inl rest.0), follow (inr rest.1))

none_there_first : (flights : List Flight) → NoneThere [] flights
none_there_first [] = tt
none_there_first (one ∷ more) = (refl, none_there_first more)

pub flights_follow : (flights : List Flight) → IsDistinct (ids_of flights) → IsReleasedFirst flights → AllFollow may_follow [] flights
flights_follow flights distinct first = flights_from [] flights (none_there_first flights) distinct (inl (refl, first))

-- ---- what waits

anything_from : (front ps : List Publication) → AllFollow anything front ps
anything_from front [] = tt
anything_from front (p ∷ ps) = (refl, anything_from (front ++ p ∷ []) ps)

pub waiting_follow : (ps : List Publication) → AllFollow anything [] ps
waiting_follow ps = anything_from [] ps
