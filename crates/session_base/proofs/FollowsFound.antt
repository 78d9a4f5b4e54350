-- If each filter, identifier and entry may be where it is, none occurs twice, identifiers rise, and
-- the released entries come first.
use Rattle.std.proofs.Common.{◌≡◌, ℕ, Bool, true, false, not, ◌&&◌, ◌||◌, ◌==◌, nat_lt, inl, inr, Option, Some, None, List, [], ◌∷◌, ◌++◌, refl, sym, ap, ◌∙◌, arith}
use Rattle.std.specs.Prelude.{bytes_eq}
use Rattle.std.specs.List.{AllByRecursion}
use Rattle.std.specs.List.Sorted.{IsStrictlySortedBy}
use Rattle.std.specs.declared.cmp.Ordering.TheVariants.{Less}
use Rattle.std.specs.Ordering.{nat_cmp}
use Rattle.std.proofs.lemmas.Bool.{or_parts, or_from}
use Rattle.std.proofs.lemmas.Cmp.{nat_cmp_total}
use Rattle.lists.specs.Lists.{has_id, IsDistinct}
use Rattle.session_base.specs.Subscriptions.{GrantedSubscription, is_subscribed}
use Rattle.session_base.specs.KeepingTheorems.{AreFiltersApart}
use Rattle.session_base.specs.OrderTheorems.{NoneReleased, IsReleasedFirst}
use Rattle.session_base.specs.Queue.{Flight, ids_of, is_released}
use Rattle.session_base.proofs.FiltersApart.{turned}
use Rattle.session_base.specs.Counted.{last_of}
use Rattle.session_base.specs.Form.{is_new_filter, is_above_last, is_above, was_released, may_follow}
use Rattle.session_base.proofs.Counted.{AllFollow}
use Rattle.session_base.proofs.Follows.{last_is, id_turned}

off : (b : Bool) → not b ≡ true → b ≡ false
off true e = absurd (cc)
off false e = refl

-- ---- filters

-- what is not after a longer front is not after a shorter one, and is not its last
split_held : (f : List ℕ) (front : List GrantedSubscription) (one : GrantedSubscription) → is_subscribed f (front ++ one ∷ []) ≡ false → (is_subscribed f front ≡ false) × (bytes_eq f one.0 ≡ false)
split_held f [] one e = (refl, (or_parts (bytes_eq f one.0) false e).0)
split_held f (first ∷ front) one e =
    let parts = or_parts (bytes_eq f first.0) (is_subscribed f (front ++ one ∷ [])) e in
    let more = split_held f front one parts.1 in (or_from (bytes_eq f first.0) (is_subscribed f front) parts.0 more.0, more.1)

-- none of those that follow is one of those in front
none_of : (front held : List GrantedSubscription) → AllFollow is_new_filter front held → AllByRecursion (λ (one : GrantedSubscription). is_subscribed one.0 front ≡ false) held
none_of front [] h = tt
none_of front (one ∷ more) h = (off (is_subscribed one.0 front) h.0, shorter more (none_of (front ++ one ∷ []) more h.1))
  where
    shorter : (more : List GrantedSubscription) → AllByRecursion (λ (next : GrantedSubscription). is_subscribed next.0 (front ++ one ∷ []) ≡ false) more →
        AllByRecursion (λ (next : GrantedSubscription). is_subscribed next.0 front ≡ false) more
    shorter [] h = tt
    shorter (next ∷ more) h = ((split_held next.0 front one h.0).0, shorter more h.1)

filters_apart_from : (front held : List GrantedSubscription) → AllFollow is_new_filter front held → AreFiltersApart held
filters_apart_from front [] h = tt
filters_apart_from front (one ∷ more) h = (not_after more (none_of (front ++ one ∷ []) more h.1), filters_apart_from (front ++ one ∷ []) more h.1)
  where
    not_after : (more : List GrantedSubscription) → AllByRecursion (λ (next : GrantedSubscription). is_subscribed next.0 (front ++ one ∷ []) ≡ false) more → is_subscribed one.0 more ≡ false
    not_after [] h = refl
    not_after (next ∷ more) h =
        or_from (bytes_eq one.0 next.0) (is_subscribed one.0 more) (turned next.0 one.0 (split_held next.0 front one h.0).1) (not_after more h.1)

pub filters_are_apart : (held : List GrantedSubscription) → AllFollow is_new_filter [] held → AreFiltersApart held
filters_are_apart held h = filters_apart_from [] held h

-- ---- received identifiers

more_than : (i j : ℕ) → nat_lt i j ≡ true → nat_cmp i j ≡ Less
more_than i j e = grind (arith, e)

-- all that follow are above the last one in front
all_above : (last : ℕ) (front ids : List ℕ) → last_of front ≡ Some last → AllFollow is_above front ids → AllByRecursion (λ id. nat_cmp last id ≡ Less) ids
all_above last front [] e h = tt
all_above last front (id ∷ ids) e h =
    let here = more_than last id (ap (λ (o : Option ℕ). is_above_last o id) (sym e) ∙ h.0) in
    (here, further ids (all_above id (front ++ id ∷ []) ids (last_is None front id) h.1) here)
  where
    further : (ids : List ℕ) → AllByRecursion (λ other. nat_cmp id other ≡ Less) ids → nat_cmp last id ≡ Less → AllByRecursion (λ other. nat_cmp last other ≡ Less) ids
    further [] h e = tt
    further (other ∷ ids) h e = (nat_cmp_total.trans last id other e h.0, further ids h.1 e)

rising_from : (front ids : List ℕ) → AllFollow is_above front ids → IsStrictlySortedBy nat_cmp ids
unfolding IsStrictlySortedBy
rising_from front [] h = tt
rising_from front (id ∷ ids) h = (all_above id (front ++ id ∷ []) ids (last_is None front id) h.1, rising_from (front ++ id ∷ []) ids h.1)

pub received_rise : (ids : List ℕ) → AllFollow is_above [] ids → IsStrictlySortedBy nat_cmp ids
received_rise ids h = rising_from [] ids h

-- ---- entries

both : (a b : Bool) → (a && b) ≡ true → (a ≡ true) × (b ≡ true)
both true b e = (refl, e)
both false b e = absurd (cc)

split_there : (id : ℕ) (front : List Flight) (one : Flight) → has_id id (ids_of (front ++ one ∷ [])) ≡ false → (has_id id (ids_of front) ≡ false) × ((id == one.0) ≡ false)
split_there id [] one e = (refl, (or_parts (id == one.0) false e).0)
split_there id (first ∷ front) one e =
    let parts = or_parts (id == first.0) (has_id id (ids_of (front ++ one ∷ []))) e in
    let more = split_there id front one parts.1 in (or_from (id == first.0) (has_id id (ids_of front)) parts.0 more.0, more.1)

none_there : (front flights : List Flight) → AllFollow may_follow front flights → AllByRecursion (λ (one : Flight). has_id one.0 (ids_of front) ≡ false) flights
none_there front [] h = tt
none_there front (one ∷ more) h =
    (off (has_id one.0 (ids_of front)) (both (not (has_id one.0 (ids_of front))) _ h.0).0, shorter more (none_there (front ++ one ∷ []) more h.1))
  where
    shorter : (more : List Flight) → AllByRecursion (λ (next : Flight). has_id next.0 (ids_of (front ++ one ∷ [])) ≡ false) more →
        AllByRecursion (λ (next : Flight). has_id next.0 (ids_of front) ≡ false) more
    shorter [] h = tt
    shorter (next ∷ more) h = ((split_there next.0 front one h.0).0, shorter more h.1)

distinct_from : (front flights : List Flight) → AllFollow may_follow front flights → IsDistinct (ids_of flights)
distinct_from front [] h = tt
distinct_from front (one ∷ more) h = (not_after more (none_there (front ++ one ∷ []) more h.1), distinct_from (front ++ one ∷ []) more h.1)
  where
    not_after : (more : List Flight) → AllByRecursion (λ (next : Flight). has_id next.0 (ids_of (front ++ one ∷ [])) ≡ false) more → has_id one.0 (ids_of more) ≡ false
    not_after [] h = refl
    not_after (next ∷ more) h =
        or_from (one.0 == next.0) (has_id one.0 (ids_of more)) (id_turned next.0 one.0 (split_there next.0 front one h.0).1) (not_after more h.1)

pub flights_are_distinct : (flights : List Flight) → AllFollow may_follow [] flights → IsDistinct (ids_of flights)
flights_are_distinct flights h = distinct_from [] flights h

order : (released last : Bool) → (not released || last) ≡ true → last ≡ false → released ≡ false
order true last e f = absurd (cc)
order false last e f = refl

-- after an entry that is not released none is
none_released : (front flights : List Flight) → was_released (last_of front) ≡ false → AllFollow may_follow front flights → NoneReleased flights
none_released front [] e h = tt
none_released front (one ∷ more) e h =
    let not_this = order (is_released one) (was_released (last_of front)) (both (not (has_id one.0 (ids_of front))) _ h.0).1 e in
    (not_this, none_released (front ++ one ∷ []) more (ap was_released (last_is None front one) ∙ not_this) h.1)

first_from : (front flights : List Flight) → AllFollow may_follow front flights → IsReleasedFirst flights
first_from front [] h = tt
first_from front (one ∷ more) h = by (is_released one) refl (first_from (front ++ one ∷ []) more h.1)
  where
    by : (b : Bool) → is_released one ≡ b → IsReleasedFirst more → IsReleasedFirst (one ∷ more)
    by true e rest = inl (e, rest)
    by false e rest = inr (e, none_released (front ++ one ∷ []) more (ap was_released (last_is None front one) ∙ e) h.1)

pub released_come_first : (flights : List Flight) → AllFollow may_follow [] flights → IsReleasedFirst flights
released_come_first flights h = first_from [] flights h
