-- To release an entry is to put it after the released ones: if identifiers are distinct and the
-- released entries come first, what a map leaves of a value that is set and an entry that is moved
-- is what PUBREC leaves.
use Rattle.std.proofs.Common.{◌≡◌, ◌<◌, ◌≤◌, ◌+◌, ℕ, suc, Bool, true, false, not, ◌&&◌, ◌||◌, ◌==◌, inl, inr, if◌then◌else◌, Some, None, List, [], ◌∷◌, ◌++◌, length, take, drop, filter, refl, ap, ap₂, ◌∙◌, sym, arith}
use Rattle.std.specs.Prelude.{position, slice_get, remove, nat_lt}
use Rattle.std.specs.List.{position_or_len, AllByRecursion, IsDistinct as IsDistinctBy}
use Rattle.std.specs.Map.{lookup, keys_of, remove_entry}
use Rattle.std.proofs.lemmas.Bool.{or_parts, or_from}
use Rattle.indexmap.specs.IndexMap.{move_index}
use Rattle.lists.specs.Lists.{has_id, IsDistinct}
use Rattle.session_base.specs.declared.awaits.Awaits.{Awaits}
use Rattle.session_base.specs.declared.awaits.Awaits.TheVariants as waits_for
use Rattle.session_base.specs.Queue.{Flight, is_released, awaits_pubrec, ids_of, released_with}
use Rattle.session_base.specs.OrderTheorems.{NoneReleased, IsReleasedFirst}
use Rattle.session.specs.Inside.{IsAwaited, with_released}

same_number : (i j : ℕ) → (i == j) ≡ true → i ≡ j
same_number i j e = grind arith

-- ---- few are released

fewer : (fs : List Flight) → length (filter is_released fs) ≤ length fs
fewer [] = omega arith
fewer (flight ∷ fs) =
    elim (is_released flight) as (λ (b : Bool). length (if b then flight ∷ filter is_released fs else filter is_released fs) ≤ suc (length fs)) [
      | true ↦ let k = fewer fs in omega (arith, k)
      | false ↦ let k = fewer fs in omega (arith, k)
    ]

value_is : (a b : Awaits) → Some a ≡ Some b → a ≡ b
value_is a b e = cc

pub few_released : (id : ℕ) (fs : List Flight) → IsAwaited id fs → length (filter is_released fs) < length fs
few_released id [] (p, e) = absurd (cc)
few_released id ((other, waits_for.Puback q) ∷ fs) h = let k = fewer fs in omega (arith, k)
few_released id ((other, waits_for.Pubrec q) ∷ fs) h = let k = fewer fs in omega (arith, k)
few_released id ((other, waits_for.Pubcomp) ∷ fs) (p, e) = by (id == other) e (λ f. few_released id fs (p, f))
  where
    by : (b : Bool) → (if b then Some waits_for.Pubcomp else lookup (λ i. id == i) fs) ≡ Some (waits_for.Pubrec p) →
        (lookup (λ i. id == i) fs ≡ Some (waits_for.Pubrec p) → length (filter is_released fs) < length fs) → suc (length (filter is_released fs)) < suc (length fs)
    by true f rest = absurd (cc)
    by false f rest = let k = rest f in omega (arith, k)

-- ---- one is set and taken out

-- the index of the identifier, or how many there are
abbrev pub index_of : ℕ → List ℕ → ℕ
index_of id [] = 0
index_of id (other ∷ ids) = if id == other then 0 else suc (index_of id ids)

one_more : (n : ℕ) → suc n ≡ 1 + n
one_more n = omega arith

index_found : (id : ℕ) (ids : List ℕ) → index_of id ids ≡ position_or_len (λ k. id == k) ids
index_found id [] = refl
index_found id (other ∷ ids) = by (id == other) (index_found id ids)
  where
    by : (b : Bool) → index_of id ids ≡ position_or_len (λ k. id == k) ids →
        (if b then 0 else suc (index_of id ids)) ≡ (if not b then 1 + position_or_len (λ k. id == k) ids else 0)
    by true k = refl
    by false k = ap (λ n. suc n) k ∙ one_more (position_or_len (λ k. id == k) ids)

-- what is at the index, and what is left without it
at_place : (id : ℕ) (fs : List Flight) → has_id id (ids_of fs) ≡ true →
    (slice_get (with_released id fs) (index_of id (ids_of fs)) ≡ Some (id, waits_for.Pubcomp))
    × (remove (with_released id fs) (index_of id (ids_of fs)) ≡ remove_entry (λ k. id == k) fs)
at_place id [] e = absurd (cc)
at_place id (flight ∷ fs) e = by (id == flight.0) refl e (at_place id fs)
  where
    by : (b : Bool) → (id == flight.0) ≡ b → (b || has_id id (ids_of fs)) ≡ true →
        (has_id id (ids_of fs) ≡ true →
        (slice_get (with_released id fs) (index_of id (ids_of fs)) ≡ Some (id, waits_for.Pubcomp))
        × (remove (with_released id fs) (index_of id (ids_of fs)) ≡ remove_entry (λ k. id == k) fs)) →
        (slice_get (if b then (flight.0, waits_for.Pubcomp) ∷ fs else flight ∷ with_released id fs) (if b then 0 else suc (index_of id (ids_of fs))) ≡ Some (id, waits_for.Pubcomp))
        × (remove (if b then (flight.0, waits_for.Pubcomp) ∷ fs else flight ∷ with_released id fs) (if b then 0 else suc (index_of id (ids_of fs)))
        ≡ (if b then fs else flight ∷ remove_entry (λ k. id == k) fs))
    by true same f rest = (ap (λ i. Some (i, waits_for.Pubcomp)) (sym (same_number id flight.0 same)), refl)
    by false same f rest = let k = rest f in (k.0, ap (λ more. flight ∷ more) k.1)

pub has_awaited : (id : ℕ) (fs : List Flight) → IsAwaited id fs → has_id id (ids_of fs) ≡ true
has_awaited id [] (p, e) = absurd (cc)
has_awaited id (flight ∷ fs) (p, e) = by (id == flight.0) e (λ f. has_awaited id fs (p, f))
  where
    by : (b : Bool) → (if b then Some flight.1 else lookup (λ i. id == i) fs) ≡ Some (waits_for.Pubrec p) →
        (lookup (λ i. id == i) fs ≡ Some (waits_for.Pubrec p) → has_id id (ids_of fs) ≡ true) → (b || has_id id (ids_of fs)) ≡ true
    by true f rest = refl
    by false f rest = rest f

index_is : (n len index : ℕ) → (if nat_lt n len then Some n else None) ≡ Some index → n ≡ index
index_is n len index e = by (nat_lt n len) e
  where
    by : (b : Bool) → (if b then Some n else None) ≡ Some index → n ≡ index
    by true f = cc
    by false f = absurd (cc)

-- ---- its new index

none_first : (fs : List Flight) → NoneReleased fs → filter is_released fs ≡ []
none_first [] none = refl
none_first (flight ∷ fs) none = rw (none.0) (none_first fs none.1)

others_stay : (id : ℕ) (fs : List Flight) → has_id id (ids_of fs) ≡ false → NoneReleased fs →
    filter (λ flight. not (is_released flight) && not (awaits_pubrec id flight)) fs ≡ fs
others_stay id [] absent none = refl
others_stay id (flight ∷ fs) absent none =
    let parts = or_parts (id == flight.0) (has_id id (ids_of fs)) absent in
    rw (none.0, parts.0) (ap (λ rest. flight ∷ rest) (others_stay id fs parts.1 none.1))

abbrev pub unreleased : ℕ → List Flight → List Flight
unreleased id fs = filter (λ flight. not (is_released flight) && not (awaits_pubrec id flight)) fs

taken_out : (id : ℕ) (fs : List Flight) → IsDistinct (ids_of fs) → NoneReleased fs → IsAwaited id fs → remove_entry (λ k. id == k) fs ≡ unreleased id fs
taken_out id [] d none (p, e) = absurd (cc)
taken_out id ((other, a) ∷ fs) d none (p, e) = by (id == other) refl e (λ f. taken_out id fs d.1 none.1 (p, f))
  where
    by : (b : Bool) → (id == other) ≡ b → (if b then Some a else lookup (λ i. id == i) fs) ≡ Some (waits_for.Pubrec p) →
        (lookup (λ i. id == i) fs ≡ Some (waits_for.Pubrec p) → remove_entry (λ k. id == k) fs ≡ unreleased id fs) →
        (if b then fs else (other, a) ∷ remove_entry (λ k. id == k) fs) ≡ unreleased id ((other, a) ∷ fs)
    by true same f rest =
        rw (value_is a (waits_for.Pubrec p) f, same)
        (sym (others_stay id fs (ap (λ i. has_id i (ids_of fs)) (same_number id other same) ∙ d.0) none.1))
    by false same f rest = rw (none.0, same) (ap (λ more. (other, a) ∷ more) (rest f))

-- the released ones are before, and all others after
parted : (id : ℕ) (fs : List Flight) → IsDistinct (ids_of fs) → IsReleasedFirst fs → IsAwaited id fs →
    (take (length (filter is_released fs)) (remove_entry (λ k. id == k) fs) ≡ filter is_released fs)
    × (drop (length (filter is_released fs)) (remove_entry (λ k. id == k) fs) ≡ unreleased id fs)
parted id [] d first (p, e) = absurd (cc)
parted id (flight ∷ fs) d (inr none) h =
    rw (none_first (flight ∷ fs) none) (refl, taken_out id (flight ∷ fs) d none h)
parted id ((other, waits_for.Puback q) ∷ fs) d (inl first) h = absurd (let no : false ≡ true = first.0 in cc)
parted id ((other, waits_for.Pubrec q) ∷ fs) d (inl first) h = absurd (let no : false ≡ true = first.0 in cc)
parted id ((other, waits_for.Pubcomp) ∷ fs) d (inl first) (p, e) = by (id == other) e (λ f. parted id fs d.1 first.1 (p, f))
  where
    by : (b : Bool) → (if b then Some waits_for.Pubcomp else lookup (λ i. id == i) fs) ≡ Some (waits_for.Pubrec p) →
        (lookup (λ i. id == i) fs ≡ Some (waits_for.Pubrec p) →
        (take (length (filter is_released fs)) (remove_entry (λ k. id == k) fs) ≡ filter is_released fs)
        × (drop (length (filter is_released fs)) (remove_entry (λ k. id == k) fs) ≡ unreleased id fs)) →
        (take (suc (length (filter is_released fs))) (if b then fs else (other, waits_for.Pubcomp) ∷ remove_entry (λ k. id == k) fs) ≡ (other, waits_for.Pubcomp) ∷ filter is_released fs)
        × (drop (suc (length (filter is_released fs))) (if b then fs else (other, waits_for.Pubcomp) ∷ remove_entry (λ k. id == k) fs) ≡ unreleased id fs)
    by true f rest = absurd (cc)
    by false f rest = let k = rest f in (ap (λ more. (other, waits_for.Pubcomp) ∷ more) k.0, k.1)

pub released_in_place : (id : ℕ) (fs : List Flight) (index : ℕ) → IsDistinct (ids_of fs) → IsReleasedFirst fs → IsAwaited id fs → position (λ k. id == k) (keys_of fs) ≡ Some index →
    move_index (with_released id fs) index (length (filter is_released fs)) ≡ released_with id fs
released_in_place id fs index d first h at =
    let here = at_place id fs (has_awaited id fs h) in
    let parts = parted id fs d first h in
    rw (← index_found id (ids_of fs) ∙ index_is (position_or_len (λ k. id == k) (ids_of fs)) (length (ids_of fs)) index at)
    (rw (here.0, here.1) (ap₂ (λ before after. before ++ (id, waits_for.Pubcomp) ∷ after) parts.0 parts.1))

-- ---- the identifiers of a map

absent : (id : ℕ) (ids : List ℕ) → AllByRecursion (λ other. (id == other) ≡ false) ids → has_id id ids ≡ false
absent id [] h = refl
absent id (other ∷ ids) h = or_from (id == other) (has_id id ids) h.0 (absent id ids h.1)

pub apart : (ids : List ℕ) → IsDistinctBy (λ i j. i == j) ids → IsDistinct ids
unfolding IsDistinctBy
apart [] h = tt
apart (id ∷ ids) h = (absent id ids h.0, apart ids h.1)

within : (id : ℕ) (ids : List ℕ) → has_id id ids ≡ true → nat_lt (index_of id ids) (length ids) ≡ true
within id [] e = absurd (cc)
within id (other ∷ ids) e = by (id == other) e (within id ids)
  where
    by : (b : Bool) → (b || has_id id ids) ≡ true → (has_id id ids ≡ true → nat_lt (index_of id ids) (length ids) ≡ true) →
        nat_lt (if b then 0 else suc (index_of id ids)) (suc (length ids)) ≡ true
    by true f rest = grind arith
    by false f rest = let k = rest f in grind (arith, k)

-- the index of an entry that is awaited is found
pub never_missing : (id : ℕ) (fs : List Flight) → IsAwaited id fs → position (λ k. id == k) (keys_of fs) ≡ None → ⊥
never_missing id fs h none =
    no (nat_lt (position_or_len (λ k. id == k) (ids_of fs)) (length (ids_of fs))) (ap (λ n. nat_lt n (length (ids_of fs))) (sym (index_found id (ids_of fs))) ∙ within id (ids_of fs) (has_awaited id fs h)) none
  where
    no : (b : Bool) → b ≡ true → (if b then Some (position_or_len (λ k. id == k) (ids_of fs)) else None) ≡ None → ⊥
    no true e f = cc
    no false e f = cc
