-- New entries, and those that start, keep the entries sound.
use Rattle.std.proofs.Common.{◌≡◌, ℕ, ◌+◌, ◌≤◌, suc, Bool, true, false, ◌⊎◌, inl, inr, ◌==◌, nat_lt, if◌then◌else◌, Option, Some, None, List, [], ◌∷◌, ◌++◌, length, map, refl, ap, sym, subst, arith}
use Rattle.session_base.specs.declared.publication.Publication.{Publication}
use Rattle.session_base.specs.Identifiers.{least_free}
use Rattle.broker_spec.specs.Connection.{ConnectionName}
use Rattle.broker_spec.specs.Entries.{Entry}
use Rattle.broker_spec.specs.Readings.{busy_ids}
use Rattle.broker_spec.specs.Times.{start_all, started}
use Rattle.session_base.proofs.CountedIdentifiers.{one_if, count, least_is_free}
use Rattle.broker_spec.proofs.SoundEntries.{IsBelow, AllWait, InOrder, Sound}

-- ---- new entries

pub all_new_wait : (n : ℕ) (ps : List Publication) → AllWait (map (Entry.Queued n) ps)
all_new_wait n [] = tt
all_new_wait n (p ∷ ps) = all_new_wait n ps

below_new : (n : ℕ) (es : List Entry) (ps : List Publication) → IsBelow (suc n) es → IsBelow (suc n) (es ++ map (Entry.Queued n) ps)
below_new n [] [] h = tt
below_new n [] (p ∷ ps) h = (omega arith, below_new n [] ps tt)
below_new n (Entry.Queued made p ∷ es) ps h = (h.0, below_new n es ps h.1)
below_new n (Entry.Sent made p id start ∷ es) ps h = (h.0, h.1, below_new n es ps h.2)
below_new n (Entry.Released made p id start release ∷ es) ps h = (h.0, h.1, h.2, below_new n es ps h.3)
below_new n (Entry.Done made p id start release finish ∷ es) ps h = (h.0, below_new n es ps h.1)

pub wait_new : (n : ℕ) (es : List Entry) (ps : List Publication) → AllWait es → AllWait (es ++ map (Entry.Queued n) ps)
wait_new n [] ps h = all_new_wait n ps
wait_new n (Entry.Queued made p ∷ es) ps h = wait_new n es ps h
wait_new n (Entry.Sent made p id start ∷ es) ps h = absurd h
wait_new n (Entry.Released made p id start release ∷ es) ps h = absurd h
wait_new n (Entry.Done made p id start release finish ∷ es) ps h = absurd h

pub order_waits : (es : List Entry) → AllWait es → InOrder es
order_waits [] h = tt
order_waits (Entry.Queued made p ∷ es) h = h
order_waits (Entry.Sent made p id start ∷ es) h = absurd h
order_waits (Entry.Released made p id start release ∷ es) h = absurd h
order_waits (Entry.Done made p id start release finish ∷ es) h = absurd h

order_new : (n : ℕ) (es : List Entry) (ps : List Publication) → InOrder es → InOrder (es ++ map (Entry.Queued n) ps)
order_new n [] ps h = order_waits (map (Entry.Queued n) ps) (all_new_wait n ps)
order_new n (Entry.Queued made p ∷ es) ps h = wait_new n es ps h
order_new n (Entry.Sent made p id start ∷ es) ps h = order_new n es ps h
order_new n (Entry.Released made p id start release ∷ es) ps h = order_new n es ps h
order_new n (Entry.Done made p id start release finish ∷ es) ps h = order_new n es ps h

pub busy_new : (n : ℕ) (es : List Entry) (ps : List Publication) → busy_ids (es ++ map (Entry.Queued n) ps) ≡ busy_ids es
busy_new n [] [] = refl
busy_new n [] (p ∷ ps) = busy_new n [] ps
busy_new n (Entry.Queued made p ∷ es) ps = busy_new n es ps
busy_new n (Entry.Sent made p id start ∷ es) ps = ap (λ ids. id ∷ ids) (busy_new n es ps)
busy_new n (Entry.Released made p id start release ∷ es) ps = ap (λ ids. id ∷ ids) (busy_new n es ps)
busy_new n (Entry.Done made p id start release finish ∷ es) ps = busy_new n es ps

pub sound_new : (n : ℕ) (es : List Entry) (ps : List Publication) → Sound (suc n) es → Sound (suc n) (es ++ map (Entry.Queued n) ps)
sound_new n es ps s = record {
  below = below_new n es ps s.below;
  in_order = order_new n es ps s.in_order;
  unique = λ i. subst (λ (ids : List ℕ). count (λ id. i == id) ids ≤ 1) (sym (busy_new n es ps)) (s.unique i);
}

-- ---- starts

pub busy_waits : (es : List Entry) → AllWait es → busy_ids es ≡ []
busy_waits [] h = refl
busy_waits (Entry.Queued made p ∷ es) h = busy_waits es h
busy_waits (Entry.Sent made p id start ∷ es) h = absurd h
busy_waits (Entry.Released made p id start release ∷ es) h = absurd h
busy_waits (Entry.Done made p id start release finish ∷ es) h = absurd h

below_started : (w n : ℕ) (ids : List ℕ) (es : List Entry) → IsBelow (suc n) es → IsBelow (suc n) (start_all w n ids es)
below_started w n ids [] h = tt
below_started w n ids (Entry.Queued made p ∷ es) h =
    elim (nat_lt (length ids) w) as (λ (b : Bool). IsBelow (suc n) (if b then Entry.Sent made p (least_free ids) n ∷ start_all w n (least_free ids ∷ ids) es else Entry.Queued made p ∷ es)) [
      | true ↦ (h.0, omega arith, below_started w n (least_free ids ∷ ids) es h.1)
      | false ↦ h
    ]
below_started w n ids (Entry.Sent made p id start ∷ es) h = (h.0, h.1, below_started w n (id ∷ ids) es h.2)
below_started w n ids (Entry.Released made p id start release ∷ es) h = (h.0, h.1, h.2, below_started w n (id ∷ ids) es h.3)
below_started w n ids (Entry.Done made p id start release finish ∷ es) h = (h.0, below_started w n ids es h.1)

order_started : (w n : ℕ) (ids : List ℕ) (es : List Entry) → InOrder es → InOrder (start_all w n ids es)
order_started w n ids [] h = tt
order_started w n ids (Entry.Queued made p ∷ es) h =
    elim (nat_lt (length ids) w) as (λ (b : Bool). InOrder (if b then Entry.Sent made p (least_free ids) n ∷ start_all w n (least_free ids ∷ ids) es else Entry.Queued made p ∷ es)) [
      | true ↦ order_started w n (least_free ids ∷ ids) es (order_waits es h)
      | false ↦ h
    ]
order_started w n ids (Entry.Sent made p id start ∷ es) h = order_started w n (id ∷ ids) es h
order_started w n ids (Entry.Released made p id start release ∷ es) h = order_started w n (id ∷ ids) es h
order_started w n ids (Entry.Done made p id start release finish ∷ es) h = order_started w n ids es h

one_of : (i id : ℕ) → (one_if (i == id) ≡ 0) ⊎ (i ≡ id)
one_of i id = elim (i == id) as (λ (b : Bool). (i == id) ≡ b → (one_if b ≡ 0) ⊎ (i ≡ id)) [ true ↦ λ e. inr (grind arith) | false ↦ λ e. inl refl ] refl

least_once : (i : ℕ) (ids : List ℕ) → count (λ id. i == id) ids ≤ 1 → one_if (i == least_free ids) + count (λ id. i == id) ids ≤ 1
least_once i ids h =
    elim (one_of i (least_free ids)) [
      | inl e ↦ omega (arith, e, h)
      | inr e ↦ subst (λ (j : ℕ). one_if (j == least_free ids) + count (λ id. j == id) ids ≤ 1) (sym e) (at_most (least_free ids == least_free ids) (least_is_free ids))
    ]
  where
    at_most : (b : Bool) → count (λ id. least_free ids == id) ids ≡ 0 → one_if b + count (λ id. least_free ids == id) ids ≤ 1
    at_most true e = omega (arith, e)
    at_most false e = omega (arith, e)

unique_started : (w n i : ℕ) (ids : List ℕ) (es : List Entry) → InOrder es → count (λ id. i == id) ids + count (λ id. i == id) (busy_ids es) ≤ 1 →
    count (λ id. i == id) ids + count (λ id. i == id) (busy_ids (start_all w n ids es)) ≤ 1
unique_started w n i ids [] o h = h
unique_started w n i ids (Entry.Queued made p ∷ es) o h =
    elim (nat_lt (length ids) w) as (λ (b : Bool). count (λ id. i == id) ids + count (λ id. i == id) (busy_ids (if b then Entry.Sent made p (least_free ids) n ∷ start_all w n (least_free ids ∷ ids) es else Entry.Queued made p ∷ es)) ≤ 1) [
      | true ↦ omega (arith, unique_started w n i (least_free ids ∷ ids) es (order_waits es o) (none (busy_waits es o)))
      | false ↦ h
    ]
  where
    none : busy_ids es ≡ [] → one_if (i == least_free ids) + count (λ id. i == id) ids + count (λ id. i == id) (busy_ids es) ≤ 1
    none e = omega (arith, ap (λ (xs : List ℕ). count (λ id. i == id) xs) e, least_once i ids (omega (arith, h)))
unique_started w n i ids (Entry.Sent made p id start ∷ es) o h = omega (arith, unique_started w n i (id ∷ ids) es o (omega (arith, h)))
unique_started w n i ids (Entry.Released made p id start release ∷ es) o h = omega (arith, unique_started w n i (id ∷ ids) es o (omega (arith, h)))
unique_started w n i ids (Entry.Done made p id start release finish ∷ es) o h = unique_started w n i ids es o h

pub sound_started : (w n : ℕ) (connection : Option ConnectionName) (es : List Entry) → Sound (suc n) es → Sound (suc n) (started w n connection es)
sound_started w n None es s = s
sound_started w n (Some x) es s = record {
  below = below_started w n [] es s.below;
  in_order = order_started w n [] es s.in_order;
  unique = λ i. omega (arith, unique_started w n i [] es s.in_order (omega (arith, s.unique i)));
}
