-- The least free identifier, and that a fill keeps identifiers apart.
use Rattle.std.proofs.Common.{◌≡◌, ℕ, ◌+◌, ◌≤◌, ◌<◌, zero, suc, Bool, true, false, ◌⊎◌, inl, inr, ◌==◌, nat_lt, if◌then◌else◌, List, [], ◌∷◌, ◌++◌, length, refl, ap, ◌∙◌, sym, subst, arith}
use Rattle.std.proofs.lemmas.Bool.{or_parts, or_from}
use Rattle.std.proofs.lemmas.List.{map-append}
use Rattle.session_base.specs.declared.publication.Publication.{Publication}
use Rattle.lists.specs.Lists.{has_id, IsDistinct}
use Rattle.session_base.specs.Identifiers.{free_from, least_free}
use Rattle.session_base.specs.Queue.{Flight, ids_of, started_flight, fill}
use Rattle.session_base.specs.Theorems.{IsLeastFree, FillKeepsApart}
use Rattle.session_base.proofs.CountedIdentifiers.{not_among, least_is_free}

-- ---- identifiers

free_least : (fuel i : ℕ) (busy : List ℕ) → (i ≤ free_from fuel i busy) × (free_from fuel i busy ≤ fuel + i) × ((id : ℕ) → i ≤ id → id < free_from fuel i busy → has_id id busy ≡ true)
free_least zero i busy = (omega arith, omega arith, λ id low high. absurd (omega (arith, low, high)))
free_least (suc fuel) i busy = by (has_id i busy) refl (free_least fuel (suc i) busy)
  where
    by : (b : Bool) → has_id i busy ≡ b →
        (suc i ≤ free_from fuel (suc i) busy) × (free_from fuel (suc i) busy ≤ fuel + suc i) × ((id : ℕ) → suc i ≤ id → id < free_from fuel (suc i) busy → has_id id busy ≡ true) →
        (i ≤ (if b then free_from fuel (suc i) busy else i)) × ((if b then free_from fuel (suc i) busy else i) ≤ suc fuel + i)
        × ((id : ℕ) → i ≤ id → id < (if b then free_from fuel (suc i) busy else i) → has_id id busy ≡ true)
    by true e k = (omega (arith, k.0), omega (arith, k.1), λ id low high. below id low high (order i id))
      where
        order : (i id : ℕ) → (i ≡ id) ⊎ ((id < i) ⊎ (suc i ≤ id))
        order i id = elim (i == id) as (λ (b : Bool). (i == id) ≡ b → (i ≡ id) ⊎ ((id < i) ⊎ (suc i ≤ id))) [
          | true ↦ λ e. inl (grind arith)
          | false ↦ λ e. inr (elim (nat_lt id i) as (λ (b : Bool). nat_lt id i ≡ b → (id < i) ⊎ (suc i ≤ id)) [ true ↦ λ f. inl (grind arith) | false ↦ λ f. inr (grind arith) ] refl)
        ] refl

        below : (id : ℕ) → i ≤ id → id < free_from fuel (suc i) busy → (i ≡ id) ⊎ ((id < i) ⊎ (suc i ≤ id)) → has_id id busy ≡ true
        below id low high (inl same) = ap (λ j. has_id j busy) (sym same) ∙ e
        below id low high (inr (inl less)) = absurd (omega (arith, less, low))
        below id low high (inr (inr more)) = k.2 id more high
    by false e k = (omega arith, omega arith, λ id low high. absurd (omega (arith, low, high)))

pub least_free_is : IsLeastFree
least_free_is busy =
    let h = free_least (length busy) 1 busy in
    (h.0, omega (arith, h.1), not_among (least_free busy) busy (least_is_free busy), h.2)

turned : (i j : ℕ) → (i == j) ≡ false → (j == i) ≡ false
turned i j e = grind arith

apart_more : (ids : List ℕ) (i : ℕ) → IsDistinct ids → has_id i ids ≡ false → IsDistinct (ids ++ i ∷ [])
apart_more [] i h e = (refl, tt)
apart_more (id ∷ ids) i h e =
    let parts = or_parts (i == id) (has_id i ids) e in
    (more ids h.0 (turned i id parts.0), apart_more ids i h.1 parts.1)
  where
    more : (others : List ℕ) → has_id id others ≡ false → (id == i) ≡ false → has_id id (others ++ i ∷ []) ≡ false
    more [] e f = rw f refl
    more (other ∷ others) e f =
        let parts = or_parts (id == other) (has_id id others) e in or_from (id == other) (has_id id (others ++ i ∷ [])) parts.0 (more others parts.1 f)

apart_next : (fs : List Flight) (p : Publication) → IsDistinct (ids_of fs) → IsDistinct (ids_of (fs ++ started_flight fs p ∷ []))
apart_next fs p h =
    subst IsDistinct (sym (map-append (λ (flight : Flight). flight.0) fs (started_flight fs p ∷ [])))
    (apart_more (ids_of fs) (least_free (ids_of fs)) h (not_among (least_free (ids_of fs)) (ids_of fs) (least_is_free (ids_of fs))))

pub fill_apart : FillKeepsApart
fill_apart w fs [] h = h
fill_apart w fs (p ∷ ps) h =
    elim (nat_lt (length fs) w) as (λ (b : Bool). IsDistinct (ids_of (if b then fill w (fs ++ started_flight fs p ∷ []) ps else record { in_flight = fs; waiting = p ∷ ps }).in_flight)) [
      | true ↦ fill_apart w (fs ++ started_flight fs p ∷ []) ps (apart_next fs p h)
      | false ↦ h
    ]
