-- Identifiers of items: which are busy, sent and released.
use Rattle.std.proofs.Common.{◌≡◌, ℕ, true, false, ◌==◌, List, [], ◌∷◌, ◌++◌, refl, ap, sym, subst, inl, inr, ◌⊎◌}
use Rattle.std.proofs.lemmas.Bool.{or_cases, both_ways, cases_Bool}
use Rattle.lists.specs.Lists.{has_id, IsDistinct}
use Rattle.exactly_once.specs.Items.{SenderItem, busy, sent, has_sent, has_released}
use Rattle.lists.proofs.Tests.{or_then, none_or, or_right, eq_is, eq_turn}
use Rattle.lists.proofs.Identifiers.{other_id}

pub busy_append : {V : Type 0} (xs ys : List (SenderItem V)) → busy (xs ++ ys) ≡ busy xs ++ busy ys
busy_append [] ys = refl
busy_append (SenderItem.Queued v ∷ xs) ys = busy_append xs ys
busy_append (SenderItem.Sent v id ∷ xs) ys = ap (λ l. id ∷ l) (busy_append xs ys)
busy_append (SenderItem.Released v id ∷ xs) ys = ap (λ l. id ∷ l) (busy_append xs ys)
busy_append (SenderItem.Done v ∷ xs) ys = busy_append xs ys

pub sent_append : {V : Type 0} (xs ys : List (SenderItem V)) → sent (xs ++ ys) ≡ sent xs ++ sent ys
sent_append [] ys = refl
sent_append (SenderItem.Queued v ∷ xs) ys = sent_append xs ys
sent_append (SenderItem.Sent v id ∷ xs) ys = ap (λ l. (id, v) ∷ l) (sent_append xs ys)
sent_append (SenderItem.Released v id ∷ xs) ys = sent_append xs ys
sent_append (SenderItem.Done v ∷ xs) ys = sent_append xs ys

-- what is sent or released is busy
pub sent_busy : {V : Type 0} (i : ℕ) (items : List (SenderItem V)) → has_sent i items ≡ true → has_id i (busy items) ≡ true
sent_busy i [] e = e
sent_busy i (SenderItem.Queued v ∷ items) e = sent_busy i items e
sent_busy i (SenderItem.Sent v id ∷ items) e = or_then (i == id) (has_sent i items) (has_id i (busy items)) e (sent_busy i items)
sent_busy i (SenderItem.Released v id ∷ items) e = or_right (i == id) (has_id i (busy items)) (sent_busy i items e)
sent_busy i (SenderItem.Done v ∷ items) e = sent_busy i items e

pub released_busy : {V : Type 0} (i : ℕ) (items : List (SenderItem V)) → has_released i items ≡ true → has_id i (busy items) ≡ true
released_busy i [] e = e
released_busy i (SenderItem.Queued v ∷ items) e = released_busy i items e
released_busy i (SenderItem.Sent v id ∷ items) e = or_right (i == id) (has_id i (busy items)) (released_busy i items e)
released_busy i (SenderItem.Released v id ∷ items) e = or_then (i == id) (has_released i items) (has_id i (busy items)) e (released_busy i items)
released_busy i (SenderItem.Done v ∷ items) e = released_busy i items e

-- with identifiers apart, none is both sent and released
pub sent_not_released : {V : Type 0} (i : ℕ) (items : List (SenderItem V)) → IsDistinct (busy items) → has_sent i items ≡ true → has_released i items ≡ false
sent_not_released i [] d e = refl
sent_not_released i (SenderItem.Queued v ∷ items) d e = sent_not_released i items d e
sent_not_released i (SenderItem.Sent v id ∷ items) d e = by (sent_not_released i items d.1) (or_cases (i == id) (has_sent i items) e)
  where
    by : (has_sent i items ≡ true → has_released i items ≡ false) → ((i == id) ≡ true) ⊎ (has_sent i items ≡ true) → has_released i items ≡ false
    by ih (inr h) = ih h
    by ih (inl h) = not_there (cases_Bool (has_released i items))
      where
        not_there : (has_released i items ≡ true) ⊎ (has_released i items ≡ false) → has_released i items ≡ false
        not_there (inr g) = g
        not_there (inl g) = absurd (both_ways (has_id i (busy items)) (subst (λ (k : ℕ). has_id k (busy items) ≡ false) (sym (eq_is i id h)) d.0) (released_busy i items g))
sent_not_released i (SenderItem.Released v id ∷ items) d e =
    none_or (i == id) (has_released i items) (eq_turn id i (other_id id i (busy items) d.0 (sent_busy i items e))) (sent_not_released i items d.1 e)
sent_not_released i (SenderItem.Done v ∷ items) d e = sent_not_released i items d e
