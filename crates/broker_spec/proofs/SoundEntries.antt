-- What the entries of every past meet: places below the number of the place, those that wait after
-- all others, and each identifier in use at most once.
use Rattle.std.proofs.Common.{ℕ, ◌<◌, ◌≤◌, suc, Bool, true, false, not, ◌&&◌, ◌==◌, if◌then◌else◌, Some, None, List, [], ◌∷◌, map, arith}
use Rattle.session_base.specs.Publication.{is_qos1}
use Rattle.broker_spec.specs.Entries.{Entry}
use Rattle.broker_spec.specs.Readings.{busy_ids}
use Rattle.broker_spec.specs.Times.{at_puback, at_pubrec, at_pubcomp}
use Rattle.session_base.proofs.CountedIdentifiers.{count}

-- each place in an entry is below n
abbrev pub IsBelow : ℕ → List Entry → Type 0
IsBelow n [] = Unit {0}
IsBelow n (Entry.Queued made p ∷ es) = (made < n) × IsBelow n es
IsBelow n (Entry.Sent made p id start ∷ es) = (made < n) × (start < n) × IsBelow n es
IsBelow n (Entry.Released made p id start release ∷ es) = (made < n) × (start < n) × (release < n) × IsBelow n es
IsBelow n (Entry.Done made p id start release finish ∷ es) = (made < n) × IsBelow n es

-- all of them wait
abbrev pub AllWait : List Entry → Type 0
AllWait [] = Unit {0}
AllWait (Entry.Queued made p ∷ es) = AllWait es
AllWait (_ ∷ es) = ⊥

-- after one that waits all wait
abbrev pub InOrder : List Entry → Type 0
InOrder [] = Unit {0}
InOrder (Entry.Queued made p ∷ es) = AllWait es
InOrder (_ ∷ es) = InOrder es

-- each identifier is that of at most one entry
abbrev pub Unique : List Entry → Type 0
Unique es = (i : ℕ) → count (λ id. i == id) (busy_ids es) ≤ 1

pub record Sound (n : ℕ) (es : List Entry) : Type 0 where
  pub below : IsBelow n es
  pub in_order : InOrder es
  pub unique : Unique es

pub sound_none : (n : ℕ) → Sound n []
sound_none n = record { below = tt; in_order = tt; unique = λ i. omega arith }

-- ---- the client's answers

pub below_puback : (n i : ℕ) (es : List Entry) → IsBelow n es → IsBelow (suc n) (map (at_puback n i) es)
below_puback n i [] h = tt
below_puback n i (Entry.Queued made p ∷ es) h = (omega (arith, h.0), below_puback n i es h.1)
below_puback n i (Entry.Sent made p id start ∷ es) h = one ((i == id) && is_qos1 p.qos) (below_puback n i es h.2)
  where
    one : (b : Bool) → IsBelow (suc n) (map (at_puback n i) es) →
        IsBelow (suc n) ((if b then Entry.Done made p id start None n else Entry.Sent made p id start) ∷ map (at_puback n i) es)
    one true k = (omega (arith, h.0), k)
    one false k = (omega (arith, h.0), omega (arith, h.1), k)
below_puback n i (Entry.Released made p id start release ∷ es) h = (omega (arith, h.0), omega (arith, h.1), omega (arith, h.2), below_puback n i es h.3)
below_puback n i (Entry.Done made p id start release finish ∷ es) h = (omega (arith, h.0), below_puback n i es h.1)

pub below_pubrec : (n i : ℕ) (es : List Entry) → IsBelow n es → IsBelow (suc n) (map (at_pubrec n i) es)
below_pubrec n i [] h = tt
below_pubrec n i (Entry.Queued made p ∷ es) h = (omega (arith, h.0), below_pubrec n i es h.1)
below_pubrec n i (Entry.Sent made p id start ∷ es) h = one ((i == id) && not (is_qos1 p.qos)) (below_pubrec n i es h.2)
  where
    one : (b : Bool) → IsBelow (suc n) (map (at_pubrec n i) es) →
        IsBelow (suc n) ((if b then Entry.Released made p id start n else Entry.Sent made p id start) ∷ map (at_pubrec n i) es)
    one true k = (omega (arith, h.0), omega (arith, h.1), omega arith, k)
    one false k = (omega (arith, h.0), omega (arith, h.1), k)
below_pubrec n i (Entry.Released made p id start release ∷ es) h = (omega (arith, h.0), omega (arith, h.1), omega (arith, h.2), below_pubrec n i es h.3)
below_pubrec n i (Entry.Done made p id start release finish ∷ es) h = (omega (arith, h.0), below_pubrec n i es h.1)

pub below_pubcomp : (n i : ℕ) (es : List Entry) → IsBelow n es → IsBelow (suc n) (map (at_pubcomp n i) es)
below_pubcomp n i [] h = tt
below_pubcomp n i (Entry.Queued made p ∷ es) h = (omega (arith, h.0), below_pubcomp n i es h.1)
below_pubcomp n i (Entry.Sent made p id start ∷ es) h = (omega (arith, h.0), omega (arith, h.1), below_pubcomp n i es h.2)
below_pubcomp n i (Entry.Released made p id start release ∷ es) h = one (i == id) (below_pubcomp n i es h.3)
  where
    one : (b : Bool) → IsBelow (suc n) (map (at_pubcomp n i) es) →
        IsBelow (suc n) ((if b then Entry.Done made p id start (Some release) n else Entry.Released made p id start release) ∷ map (at_pubcomp n i) es)
    one true k = (omega (arith, h.0), k)
    one false k = (omega (arith, h.0), omega (arith, h.1), omega (arith, h.2), k)
below_pubcomp n i (Entry.Done made p id start release finish ∷ es) h = (omega (arith, h.0), below_pubcomp n i es h.1)

pub below_more : (n : ℕ) (es : List Entry) → IsBelow n es → IsBelow (suc n) es
below_more n [] h = tt
below_more n (Entry.Queued made p ∷ es) h = (omega (arith, h.0), below_more n es h.1)
below_more n (Entry.Sent made p id start ∷ es) h = (omega (arith, h.0), omega (arith, h.1), below_more n es h.2)
below_more n (Entry.Released made p id start release ∷ es) h = (omega (arith, h.0), omega (arith, h.1), omega (arith, h.2), below_more n es h.3)
below_more n (Entry.Done made p id start release finish ∷ es) h = (omega (arith, h.0), below_more n es h.1)
