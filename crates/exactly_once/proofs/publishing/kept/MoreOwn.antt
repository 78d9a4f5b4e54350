-- One more publication after the others, and all of them sent: identifiers, numbers and releases.
use Rattle.std.proofs.Common.{◌≡◌, ◌+◌, ℕ, suc, Bool, true, false, ◌||◌, ◌==◌, if◌then◌else◌, List, [], ◌∷◌, ◌++◌, length, refl, ap, subst, arith}
use Rattle.std.proofs.lemmas.Bool.{both_ways}
use Rattle.exactly_once.specs.Items.{SenderItem, has_released}
use Rattle.client_base.specs.Keeper.{Own, ids_of_own}
use Rattle.client_base.specs.Written.{sent_all}
use Rattle.exactly_once.specs.Carried.{is_qos2}
use Rattle.exactly_once.specs.Inside.Projections.{items_of_own}
use Rattle.exactly_once.specs.Inside.OwnShape.{AreNumberedFrom, none_queued}

-- ---- one more

pub ids_more : (own more : List Own) → ids_of_own (own ++ more) ≡ ids_of_own own ++ ids_of_own more
ids_more [] more = refl
ids_more (Own.Queued k p id ∷ own) more = ap (λ l. id ∷ l) (ids_more own more)
ids_more (Own.Sent k p id ∷ own) more = ap (λ l. id ∷ l) (ids_more own more)
ids_more (Own.Released k p id ∷ own) more = ap (λ l. id ∷ l) (ids_more own more)
ids_more (Own.Done k p ∷ own) more = ids_more own more

pub numbered_more : (n : ℕ) (own more : List Own) → AreNumberedFrom n own → AreNumberedFrom (n + length own) more → AreNumberedFrom n (own ++ more)
numbered_more n [] more h g = let same : n + 0 ≡ n = omega arith in subst (λ (m : ℕ). AreNumberedFrom m more) same g
numbered_more n (Own.Queued k p id ∷ own) more h g =
    let same : n + suc (length own) ≡ suc n + length own = omega arith in (h.0, numbered_more (suc n) own more h.1 (subst (λ (m : ℕ). AreNumberedFrom m more) same g))
numbered_more n (Own.Sent k p id ∷ own) more h g =
    let same : n + suc (length own) ≡ suc n + length own = omega arith in (h.0, numbered_more (suc n) own more h.1 (subst (λ (m : ℕ). AreNumberedFrom m more) same g))
numbered_more n (Own.Released k p id ∷ own) more h g =
    let same : n + suc (length own) ≡ suc n + length own = omega arith in (h.0, h.1, numbered_more (suc n) own more h.2 (subst (λ (m : ℕ). AreNumberedFrom m more) same g))
numbered_more n (Own.Done k p ∷ own) more h g =
    let same : n + suc (length own) ≡ suc n + length own = omega arith in (h.0, numbered_more (suc n) own more h.1 (subst (λ (m : ℕ). AreNumberedFrom m more) same g))

pub queued_more : (own more : List Own) → none_queued own ≡ true → none_queued more ≡ true → none_queued (own ++ more) ≡ true
queued_more [] more h g = g
queued_more (Own.Queued k p id ∷ own) more h g = absurd (both_ways false refl h)
queued_more (Own.Sent k p id ∷ own) more h g = queued_more own more h g
queued_more (Own.Released k p id ∷ own) more h g = queued_more own more h g
queued_more (Own.Done k p ∷ own) more h g = queued_more own more h g

pub released_front : (j : ℕ) (items more : List (SenderItem ℕ)) → has_released j more ≡ false → has_released j (items ++ more) ≡ has_released j items
released_front j [] more e = e
released_front j (SenderItem.Queued v ∷ items) more e = released_front j items more e
released_front j (SenderItem.Sent v id ∷ items) more e = released_front j items more e
released_front j (SenderItem.Released v id ∷ items) more e = ap (λ b. (j == id) || b) (released_front j items more e)
released_front j (SenderItem.Done v ∷ items) more e = released_front j items more e

-- ---- all sent

pub ids_sent : (own : List Own) → ids_of_own own ≡ ids_of_own (sent_all own)
ids_sent [] = refl
ids_sent (Own.Queued k p id ∷ own) = ap (λ l. id ∷ l) (ids_sent own)
ids_sent (Own.Sent k p id ∷ own) = ap (λ l. id ∷ l) (ids_sent own)
ids_sent (Own.Released k p id ∷ own) = ap (λ l. id ∷ l) (ids_sent own)
ids_sent (Own.Done k p ∷ own) = ids_sent own

pub numbered_sent : (n : ℕ) (own : List Own) → AreNumberedFrom n own → AreNumberedFrom n (sent_all own)
numbered_sent n [] h = tt
numbered_sent n (Own.Queued k p id ∷ own) h = (h.0, numbered_sent (suc n) own h.1)
numbered_sent n (Own.Sent k p id ∷ own) h = (h.0, numbered_sent (suc n) own h.1)
numbered_sent n (Own.Released k p id ∷ own) h = (h.0, h.1, numbered_sent (suc n) own h.2)
numbered_sent n (Own.Done k p ∷ own) h = (h.0, numbered_sent (suc n) own h.1)

pub queued_sent : (own : List Own) → none_queued (sent_all own) ≡ true
queued_sent [] = refl
queued_sent (Own.Queued k p id ∷ own) = queued_sent own
queued_sent (Own.Sent k p id ∷ own) = queued_sent own
queued_sent (Own.Released k p id ∷ own) = queued_sent own
queued_sent (Own.Done k p ∷ own) = queued_sent own

pub released_sent : (j : ℕ) (own : List Own) → has_released j (items_of_own own) ≡ has_released j (items_of_own (sent_all own))
released_sent j [] = refl
released_sent j (Own.Queued k p id ∷ own) = by (is_qos2 p.qos) (released_sent j own)
  where
    by : (b : Bool) → has_released j (items_of_own own) ≡ has_released j (items_of_own (sent_all own))
        → has_released j (if b then SenderItem.Queued k ∷ items_of_own own else items_of_own own) ≡ has_released j (if b then SenderItem.Sent k id ∷ items_of_own (sent_all own) else items_of_own (sent_all own))
    by true ih = ih
    by false ih = ih
released_sent j (Own.Sent k p id ∷ own) = by (is_qos2 p.qos) (released_sent j own)
  where
    by : (b : Bool) → has_released j (items_of_own own) ≡ has_released j (items_of_own (sent_all own))
        → has_released j (if b then SenderItem.Sent k id ∷ items_of_own own else items_of_own own) ≡ has_released j (if b then SenderItem.Sent k id ∷ items_of_own (sent_all own) else items_of_own (sent_all own))
    by true ih = ih
    by false ih = ih
released_sent j (Own.Released k p id ∷ own) = by (is_qos2 p.qos) (released_sent j own)
  where
    by : (b : Bool) → has_released j (items_of_own own) ≡ has_released j (items_of_own (sent_all own))
        → has_released j (if b then SenderItem.Released k id ∷ items_of_own own else items_of_own own)
        ≡ has_released j (if b then SenderItem.Released k id ∷ items_of_own (sent_all own) else items_of_own (sent_all own))
    by true ih = ap (λ b. (j == id) || b) ih
    by false ih = ih
released_sent j (Own.Done k p ∷ own) = by (is_qos2 p.qos) (released_sent j own)
  where
    by : (b : Bool) → has_released j (items_of_own own) ≡ has_released j (items_of_own (sent_all own))
        → has_released j (if b then SenderItem.Done k ∷ items_of_own own else items_of_own own) ≡ has_released j (if b then SenderItem.Done k ∷ items_of_own (sent_all own) else items_of_own (sent_all own))
    by true ih = ih
    by false ih = ih
