-- What a PUBREC does to the items.
use Rattle.std.proofs.Common.{◌≡◌, ℕ, Bool, true, false, ◌||◌, ◌==◌, if◌then◌else◌, List, [], ◌∷◌, map, refl, ap, ap₂, subst, inl, inr, ◌⊎◌}
use Rattle.std.proofs.lemmas.Bool.{cases_Bool}
use Rattle.lists.specs.Lists.{has_id, Each}
use Rattle.exactly_once.specs.Items.{SenderItem, value_of, busy, has_sent, has_released, item_released}
use Rattle.exactly_once.specs.HandshakeInvariant.{IsOld}
use Rattle.lists.proofs.Tests.{or_then, or_second, or_none, or_right, or_left, eq_is}

-- ---- PUBREC

pub busy_releasing : {V : Type 0} (i : ℕ) (items : List (SenderItem V)) → busy (map (item_released i) items) ≡ busy items
busy_releasing i [] = refl
busy_releasing i (SenderItem.Queued v ∷ items) = busy_releasing i items
busy_releasing i (SenderItem.Sent v id ∷ items) = by (i == id) (busy_releasing i items)
  where
    by : (b : Bool) → busy (map (item_released i) items) ≡ busy items → busy ((if b then SenderItem.Released v id else SenderItem.Sent v id) ∷ map (item_released i) items) ≡ id ∷ busy items
    by true ih = ap (λ l. id ∷ l) ih
    by false ih = ap (λ l. id ∷ l) ih
busy_releasing i (SenderItem.Released v id ∷ items) = ap (λ l. id ∷ l) (busy_releasing i items)
busy_releasing i (SenderItem.Done v ∷ items) = busy_releasing i items

pub values_releasing : {V : Type 0} (i : ℕ) (items : List (SenderItem V)) → map value_of (map (item_released i) items) ≡ map value_of items
values_releasing i [] = refl
values_releasing i (SenderItem.Queued v ∷ items) = ap (λ l. v ∷ l) (values_releasing i items)
values_releasing i (SenderItem.Sent v id ∷ items) = ap₂ (λ x l. x ∷ l) (by (i == id)) (values_releasing i items)
  where
    by : (b : Bool) → value_of (if b then SenderItem.Released v id else SenderItem.Sent v id) ≡ v
    by true = refl
    by false = refl
values_releasing i (SenderItem.Released v id ∷ items) = ap (λ l. v ∷ l) (values_releasing i items)
values_releasing i (SenderItem.Done v ∷ items) = ap (λ l. v ∷ l) (values_releasing i items)

-- items with other identifiers stay
pub releasing_others : {V : Type 0} (i : ℕ) (items : List (SenderItem V)) → has_id i (busy items) ≡ false → map (item_released i) items ≡ items
releasing_others i [] e = refl
releasing_others i (SenderItem.Queued v ∷ items) e = ap (λ l. SenderItem.Queued v ∷ l) (releasing_others i items e)
releasing_others i (SenderItem.Sent v id ∷ items) e =
    let h = or_none (i == id) (has_id i (busy items)) e in
    ap₂ (λ x l. x ∷ l) (ap (λ b. if b then SenderItem.Released v id else SenderItem.Sent v id) h.0) (releasing_others i items h.1)
releasing_others i (SenderItem.Released v id ∷ items) e =
    let h = or_none (i == id) (has_id i (busy items)) e in
    ap (λ l. SenderItem.Released v id ∷ l) (releasing_others i items h.1)
releasing_others i (SenderItem.Done v ∷ items) e = ap (λ l. SenderItem.Done v ∷ l) (releasing_others i items e)

pub olds_releasing : {V : Type 0} (received : ℕ → Bool) (i : ℕ) (items : List (SenderItem V)) → Each (IsOld received) items → Each (IsOld received) (map (item_released i) items)
olds_releasing received i [] h = tt
olds_releasing received i (SenderItem.Queued v ∷ items) h = (h.0, olds_releasing received i items h.1)
olds_releasing received i (SenderItem.Sent v id ∷ items) h = (by (i == id), olds_releasing received i items h.1)
  where
    by : (b : Bool) → IsOld received (if b then SenderItem.Released v id else SenderItem.Sent v id)
    by true = tt
    by false = h.0
olds_releasing received i (SenderItem.Released v id ∷ items) h = (tt, olds_releasing received i items h.1)
olds_releasing received i (SenderItem.Done v ∷ items) h = (tt, olds_releasing received i items h.1)

-- another that is sent stays so, what is released stays so, and the one is released now
pub sent_releasing : {V : Type 0} (i j : ℕ) (items : List (SenderItem V)) → (j == i) ≡ false → has_sent j items ≡ true → has_sent j (map (item_released i) items) ≡ true
sent_releasing i j [] n e = e
sent_releasing i j (SenderItem.Queued v ∷ items) n e = sent_releasing i j items n e
sent_releasing i j (SenderItem.Sent v id ∷ items) n e = by (sent_releasing i j items n) (cases_Bool (i == id))
  where
    by : (has_sent j items ≡ true → has_sent j (map (item_released i) items) ≡ true) → ((i == id) ≡ true) ⊎ ((i == id) ≡ false)
        → has_sent j ((if i == id then SenderItem.Released v id else SenderItem.Sent v id) ∷ map (item_released i) items) ≡ true
    by ih (inl h) = rw h (or_second (j == id) (has_sent j items) (has_sent j (map (item_released i) items)) (subst (λ (k : ℕ). (j == k) ≡ false) (eq_is i id h) n) e ih)
    by ih (inr h) = rw h (or_then (j == id) (has_sent j items) (has_sent j (map (item_released i) items)) e ih)
sent_releasing i j (SenderItem.Released v id ∷ items) n e = sent_releasing i j items n e
sent_releasing i j (SenderItem.Done v ∷ items) n e = sent_releasing i j items n e

pub released_releasing : {V : Type 0} (i j : ℕ) (items : List (SenderItem V)) → has_released j items ≡ true → has_released j (map (item_released i) items) ≡ true
released_releasing i j [] e = e
released_releasing i j (SenderItem.Queued v ∷ items) e = released_releasing i j items e
released_releasing i j (SenderItem.Sent v id ∷ items) e = by (i == id) (released_releasing i j items e)
  where
    by : (b : Bool) → has_released j (map (item_released i) items) ≡ true → has_released j ((if b then SenderItem.Released v id else SenderItem.Sent v id) ∷ map (item_released i) items) ≡ true
    by true ih = or_right (j == id) (has_released j (map (item_released i) items)) ih
    by false ih = ih
released_releasing i j (SenderItem.Released v id ∷ items) e = or_then (j == id) (has_released j items) (has_released j (map (item_released i) items)) e (released_releasing i j items)
released_releasing i j (SenderItem.Done v ∷ items) e = released_releasing i j items e

pub now_released : {V : Type 0} (i : ℕ) (items : List (SenderItem V)) → has_sent i items ≡ true → has_released i (map (item_released i) items) ≡ true
now_released i [] e = e
now_released i (SenderItem.Queued v ∷ items) e = now_released i items e
now_released i (SenderItem.Sent v id ∷ items) e = by (now_released i items) (cases_Bool (i == id))
  where
    by : (has_sent i items ≡ true → has_released i (map (item_released i) items) ≡ true) → ((i == id) ≡ true) ⊎ ((i == id) ≡ false)
        → has_released i ((if i == id then SenderItem.Released v id else SenderItem.Sent v id) ∷ map (item_released i) items) ≡ true
    by ih (inl h) = rw h (or_left (i == id) (has_released i (map (item_released i) items)) h)
    by ih (inr h) = rw h (ih (subst (λ (b : Bool). (b || has_sent i items) ≡ true) h e))
now_released i (SenderItem.Released v id ∷ items) e = or_right (i == id) (has_released i (map (item_released i) items)) (now_released i items e)
now_released i (SenderItem.Done v ∷ items) e = now_released i items e
