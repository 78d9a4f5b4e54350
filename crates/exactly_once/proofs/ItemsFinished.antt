-- What a PUBCOMP does to the items.
use Rattle.std.proofs.Common.{◌≡◌, ℕ, Bool, true, false, ◌==◌, if◌then◌else◌, List, [], ◌∷◌, map, refl, ap, ap₂, subst, inl, inr, ◌⊎◌}
use Rattle.std.proofs.lemmas.Bool.{cases_Bool}
use Rattle.lists.specs.Lists.{has_id, IsDistinct, Each}
use Rattle.exactly_once.specs.Items.{SenderItem, value_of, busy, has_sent, has_released, finishing}
use Rattle.exactly_once.specs.HandshakeInvariant.{IsOld}
use Rattle.lists.proofs.Tests.{or_then, or_second, or_none, none_or, eq_is}

-- ---- PUBCOMP

pub values_finishing : {V : Type 0} (i : ℕ) (items : List (SenderItem V)) → map value_of (map (finishing i) items) ≡ map value_of items
values_finishing i [] = refl
values_finishing i (SenderItem.Queued v ∷ items) = ap (λ l. v ∷ l) (values_finishing i items)
values_finishing i (SenderItem.Sent v id ∷ items) = ap (λ l. v ∷ l) (values_finishing i items)
values_finishing i (SenderItem.Released v id ∷ items) = ap₂ (λ x l. x ∷ l) (by (i == id)) (values_finishing i items)
  where
    by : (b : Bool) → value_of (if b then SenderItem.Done v else SenderItem.Released v id) ≡ v
    by true = refl
    by false = refl
values_finishing i (SenderItem.Done v ∷ items) = ap (λ l. v ∷ l) (values_finishing i items)

pub finishing_others : {V : Type 0} (i : ℕ) (items : List (SenderItem V)) → has_id i (busy items) ≡ false → map (finishing i) items ≡ items
finishing_others i [] e = refl
finishing_others i (SenderItem.Queued v ∷ items) e = ap (λ l. SenderItem.Queued v ∷ l) (finishing_others i items e)
finishing_others i (SenderItem.Sent v id ∷ items) e =
    let h = or_none (i == id) (has_id i (busy items)) e in
    ap (λ l. SenderItem.Sent v id ∷ l) (finishing_others i items h.1)
finishing_others i (SenderItem.Released v id ∷ items) e =
    let h = or_none (i == id) (has_id i (busy items)) e in
    ap₂ (λ x l. x ∷ l) (ap (λ b. if b then SenderItem.Done v else SenderItem.Released v id) h.0) (finishing_others i items h.1)
finishing_others i (SenderItem.Done v ∷ items) e = ap (λ l. SenderItem.Done v ∷ l) (finishing_others i items e)

pub olds_finishing : {V : Type 0} (received : ℕ → Bool) (i : ℕ) (items : List (SenderItem V)) → Each (IsOld received) items → Each (IsOld received) (map (finishing i) items)
olds_finishing received i [] h = tt
olds_finishing received i (SenderItem.Queued v ∷ items) h = (h.0, olds_finishing received i items h.1)
olds_finishing received i (SenderItem.Sent v id ∷ items) h = (h.0, olds_finishing received i items h.1)
olds_finishing received i (SenderItem.Released v id ∷ items) h = (by (i == id), olds_finishing received i items h.1)
  where
    by : (b : Bool) → IsOld received (if b then SenderItem.Done v else SenderItem.Released v id)
    by true = tt
    by false = tt
olds_finishing received i (SenderItem.Done v ∷ items) h = (tt, olds_finishing received i items h.1)

-- fewer identifiers are busy
pub fewer_busy : {V : Type 0} (i j : ℕ) (items : List (SenderItem V)) → has_id j (busy items) ≡ false → has_id j (busy (map (finishing i) items)) ≡ false
fewer_busy i j [] e = e
fewer_busy i j (SenderItem.Queued v ∷ items) e = fewer_busy i j items e
fewer_busy i j (SenderItem.Sent v id ∷ items) e =
    let h = or_none (j == id) (has_id j (busy items)) e in none_or (j == id) (has_id j (busy (map (finishing i) items))) h.0 (fewer_busy i j items h.1)
fewer_busy i j (SenderItem.Released v id ∷ items) e =
    let h = or_none (j == id) (has_id j (busy items)) e in by h.0 (i == id) (fewer_busy i j items h.1)
  where
    by : (j == id) ≡ false → (b : Bool) → has_id j (busy (map (finishing i) items)) ≡ false → has_id j (busy ((if b then SenderItem.Done v else SenderItem.Released v id) ∷ map (finishing i) items)) ≡ false
    by n true ih = ih
    by n false ih = none_or (j == id) (has_id j (busy (map (finishing i) items))) n ih
fewer_busy i j (SenderItem.Done v ∷ items) e = fewer_busy i j items e

pub apart_finishing : {V : Type 0} (i : ℕ) (items : List (SenderItem V)) → IsDistinct (busy items) → IsDistinct (busy (map (finishing i) items))
apart_finishing i [] d = tt
apart_finishing i (SenderItem.Queued v ∷ items) d = apart_finishing i items d
apart_finishing i (SenderItem.Sent v id ∷ items) d = (fewer_busy i id items d.0, apart_finishing i items d.1)
apart_finishing i (SenderItem.Released v id ∷ items) d = by (i == id) (apart_finishing i items d.1)
  where
    by : (b : Bool) → IsDistinct (busy (map (finishing i) items)) → IsDistinct (busy ((if b then SenderItem.Done v else SenderItem.Released v id) ∷ map (finishing i) items))
    by true ih = ih
    by false ih = (fewer_busy i id items d.0, ih)
apart_finishing i (SenderItem.Done v ∷ items) d = apart_finishing i items d

-- another stays busy, sent or released
pub busy_finishing : {V : Type 0} (i j : ℕ) (items : List (SenderItem V)) → (j == i) ≡ false → has_id j (busy items) ≡ true → has_id j (busy (map (finishing i) items)) ≡ true
busy_finishing i j [] n e = e
busy_finishing i j (SenderItem.Queued v ∷ items) n e = busy_finishing i j items n e
busy_finishing i j (SenderItem.Sent v id ∷ items) n e = or_then (j == id) (has_id j (busy items)) (has_id j (busy (map (finishing i) items))) e (busy_finishing i j items n)
busy_finishing i j (SenderItem.Released v id ∷ items) n e = by (busy_finishing i j items n) (cases_Bool (i == id))
  where
    by : (has_id j (busy items) ≡ true → has_id j (busy (map (finishing i) items)) ≡ true) → ((i == id) ≡ true) ⊎ ((i == id) ≡ false)
        → has_id j (busy ((if i == id then SenderItem.Done v else SenderItem.Released v id) ∷ map (finishing i) items)) ≡ true
    by ih (inl h) = rw h (or_second (j == id) (has_id j (busy items)) (has_id j (busy (map (finishing i) items))) (subst (λ (k : ℕ). (j == k) ≡ false) (eq_is i id h) n) e ih)
    by ih (inr h) = rw h (or_then (j == id) (has_id j (busy items)) (has_id j (busy (map (finishing i) items))) e ih)
busy_finishing i j (SenderItem.Done v ∷ items) n e = busy_finishing i j items n e

pub sent_finishing : {V : Type 0} (i j : ℕ) (items : List (SenderItem V)) → has_sent j items ≡ true → has_sent j (map (finishing i) items) ≡ true
sent_finishing i j [] e = e
sent_finishing i j (SenderItem.Queued v ∷ items) e = sent_finishing i j items e
sent_finishing i j (SenderItem.Sent v id ∷ items) e = or_then (j == id) (has_sent j items) (has_sent j (map (finishing i) items)) e (sent_finishing i j items)
sent_finishing i j (SenderItem.Released v id ∷ items) e = by (i == id) (sent_finishing i j items e)
  where
    by : (b : Bool) → has_sent j (map (finishing i) items) ≡ true → has_sent j ((if b then SenderItem.Done v else SenderItem.Released v id) ∷ map (finishing i) items) ≡ true
    by true ih = ih
    by false ih = ih
sent_finishing i j (SenderItem.Done v ∷ items) e = sent_finishing i j items e

pub released_finishing : {V : Type 0} (i j : ℕ) (items : List (SenderItem V)) → (j == i) ≡ false → has_released j items ≡ true → has_released j (map (finishing i) items) ≡ true
released_finishing i j [] n e = e
released_finishing i j (SenderItem.Queued v ∷ items) n e = released_finishing i j items n e
released_finishing i j (SenderItem.Sent v id ∷ items) n e = released_finishing i j items n e
released_finishing i j (SenderItem.Released v id ∷ items) n e = by (released_finishing i j items n) (cases_Bool (i == id))
  where
    by : (has_released j items ≡ true → has_released j (map (finishing i) items) ≡ true) → ((i == id) ≡ true) ⊎ ((i == id) ≡ false)
        → has_released j ((if i == id then SenderItem.Done v else SenderItem.Released v id) ∷ map (finishing i) items) ≡ true
    by ih (inl h) = rw h (or_second (j == id) (has_released j items) (has_released j (map (finishing i) items)) (subst (λ (k : ℕ). (j == k) ≡ false) (eq_is i id h) n) e ih)
    by ih (inr h) = rw h (or_then (j == id) (has_released j items) (has_released j (map (finishing i) items)) e ih)
released_finishing i j (SenderItem.Done v ∷ items) n e = released_finishing i j items n e
