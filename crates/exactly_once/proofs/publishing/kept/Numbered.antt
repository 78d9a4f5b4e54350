-- The answers keep the numbers of a client's publications, and what a PUBREC releases is of QoS 2.
use Rattle.std.proofs.Common.{◌≡◌, ℕ, suc, Bool, true, false, not, ◌&&◌, ◌==◌, if◌then◌else◌, List, [], ◌∷◌, map, refl, ap, sym, ◌∙◌, subst, inl, inr, ◌⊎◌}
use Rattle.std.proofs.lemmas.Bool.{both_ways, cases_Bool}
use Rattle.session_base.specs.Publication.{is_qos1}
use Rattle.lists.specs.Lists.{has_id, IsDistinct}
use Rattle.exactly_once.specs.Items.{SenderItem, busy, has_sent}
use Rattle.lists.proofs.Tests.{or_none, or_second, eq_is}
use Rattle.exactly_once.proofs.BusyIdentifiers.{sent_busy}
use Rattle.client_base.specs.Keeper.{Own, ids_of_own}
use Rattle.client_base.specs.Handshakes.{own_at_pubrec, own_at_puback, own_at_pubcomp}
use Rattle.exactly_once.specs.Carried.{is_qos2}
use Rattle.exactly_once.specs.Inside.Projections.{items_of_own}
use Rattle.exactly_once.specs.Inside.OwnShape.{AreNumberedFrom}
use Rattle.exactly_once.proofs.publishing.Queued.{not_busy}

pub numbered_puback : (i n : ℕ) (own : List Own) → AreNumberedFrom n own → AreNumberedFrom n (map (own_at_puback i) own)
numbered_puback i n [] h = tt
numbered_puback i n (Own.Queued k p id ∷ own) h = (h.0, numbered_puback i (suc n) own h.1)
numbered_puback i n (Own.Sent k p id ∷ own) h = by ((i == id) && is_qos1 p.qos) (numbered_puback i (suc n) own h.1)
  where
    by : (b : Bool) → AreNumberedFrom (suc n) (map (own_at_puback i) own) → AreNumberedFrom n ((if b then Own.Done k p else Own.Sent k p id) ∷ map (own_at_puback i) own)
    by true ih = (h.0, ih)
    by false ih = (h.0, ih)
numbered_puback i n (Own.Released k p id ∷ own) h = (h.0, h.1, numbered_puback i (suc n) own h.2)
numbered_puback i n (Own.Done k p ∷ own) h = (h.0, numbered_puback i (suc n) own h.1)

pub numbered_pubcomp : (i n : ℕ) (own : List Own) → AreNumberedFrom n own → AreNumberedFrom n (map (own_at_pubcomp i) own)
numbered_pubcomp i n [] h = tt
numbered_pubcomp i n (Own.Queued k p id ∷ own) h = (h.0, numbered_pubcomp i (suc n) own h.1)
numbered_pubcomp i n (Own.Sent k p id ∷ own) h = (h.0, numbered_pubcomp i (suc n) own h.1)
numbered_pubcomp i n (Own.Released k p id ∷ own) h = by (i == id) (numbered_pubcomp i (suc n) own h.2)
  where
    by : (b : Bool) → AreNumberedFrom (suc n) (map (own_at_pubcomp i) own) → AreNumberedFrom n ((if b then Own.Done k p else Own.Released k p id) ∷ map (own_at_pubcomp i) own)
    by true ih = (h.0, ih)
    by false ih = (h.0, h.1, ih)
numbered_pubcomp i n (Own.Done k p ∷ own) h = (h.0, numbered_pubcomp i (suc n) own h.1)

-- what is released is of QoS 2, since an item is sent with this identifier, and no other publication has it
pub numbered_pubrec : (i n : ℕ) (own : List Own) → AreNumberedFrom n own → IsDistinct (ids_of_own own) → (has_sent i (items_of_own own) ≡ true) ⊎ (has_id i (ids_of_own own) ≡ false)
    → AreNumberedFrom n (map (own_at_pubrec i) own)
numbered_pubrec i n [] h d s = tt
numbered_pubrec i n (Own.Queued k p id ∷ own) h d s = (h.0, numbered_pubrec i (suc n) own h.1 d.1 (there s))
  where
    there : (has_sent i (items_of_own (Own.Queued k p id ∷ own)) ≡ true) ⊎ (has_id i (id ∷ ids_of_own own) ≡ false) → (has_sent i (items_of_own own) ≡ true) ⊎ (has_id i (ids_of_own own) ≡ false)
    there (inl e) = inl (skip (is_qos2 p.qos) e)
      where
        skip : (b : Bool) → has_sent i (if b then SenderItem.Queued k ∷ items_of_own own else items_of_own own) ≡ true → has_sent i (items_of_own own) ≡ true
        skip true e = e
        skip false e = e
    there (inr e) = inr (or_none (i == id) (has_id i (ids_of_own own)) e).1
numbered_pubrec i n (Own.Released k p id ∷ own) h d s = (h.0, h.1, numbered_pubrec i (suc n) own h.2 d.1 (there s))
  where
    there : (has_sent i (items_of_own (Own.Released k p id ∷ own)) ≡ true) ⊎ (has_id i (id ∷ ids_of_own own) ≡ false) → (has_sent i (items_of_own own) ≡ true) ⊎ (has_id i (ids_of_own own) ≡ false)
    there (inl e) = inl (skip (is_qos2 p.qos) e)
      where
        skip : (b : Bool) → has_sent i (if b then SenderItem.Released k id ∷ items_of_own own else items_of_own own) ≡ true → has_sent i (items_of_own own) ≡ true
        skip true e = e
        skip false e = e
    there (inr e) = inr (or_none (i == id) (has_id i (ids_of_own own)) e).1
numbered_pubrec i n (Own.Done k p ∷ own) h d s = (h.0, numbered_pubrec i (suc n) own h.1 d (there s))
  where
    there : (has_sent i (items_of_own (Own.Done k p ∷ own)) ≡ true) ⊎ (has_id i (ids_of_own own) ≡ false) → (has_sent i (items_of_own own) ≡ true) ⊎ (has_id i (ids_of_own own) ≡ false)
    there (inl e) = inl (skip (is_qos2 p.qos) e)
      where
        skip : (b : Bool) → has_sent i (if b then SenderItem.Done k ∷ items_of_own own else items_of_own own) ≡ true → has_sent i (items_of_own own) ≡ true
        skip true e = e
        skip false e = e
    there (inr e) = inr e
numbered_pubrec i n (Own.Sent k p id ∷ own) h d s = by (cases_Bool (i == id)) (cases_Bool (is_qos2 p.qos)) s (numbered_pubrec i (suc n) own h.1 d.1)
  where
    clear : (i == id) ≡ true → has_id i (ids_of_own own) ≡ false
    clear e = subst (λ (j : ℕ). has_id j (ids_of_own own) ≡ false) (sym (eq_is i id e)) d.0

    -- sent or released, it keeps its number
    numbered : (b : Bool) → (b ≡ true → is_qos2 p.qos ≡ true) → AreNumberedFrom (suc n) (map (own_at_pubrec i) own)
        → AreNumberedFrom n ((if b then Own.Released k p id else Own.Sent k p id) ∷ map (own_at_pubrec i) own)
    numbered true two rest = (h.0, two refl, rest)
    numbered false two rest = (h.0, rest)

    both : (a b : Bool) → (a && b) ≡ true → a ≡ true
    both true b e = refl
    both false b e = absurd (both_ways false refl e)

    by : ((i == id) ≡ true) ⊎ ((i == id) ≡ false) → (is_qos2 p.qos ≡ true) ⊎ (is_qos2 p.qos ≡ false)
        → (has_sent i (items_of_own (Own.Sent k p id ∷ own)) ≡ true) ⊎ (has_id i (id ∷ ids_of_own own) ≡ false)
        → ((has_sent i (items_of_own own) ≡ true) ⊎ (has_id i (ids_of_own own) ≡ false) → AreNumberedFrom (suc n) (map (own_at_pubrec i) own))
        → AreNumberedFrom n ((if (i == id) && not (is_qos1 p.qos) then Own.Released k p id else Own.Sent k p id) ∷ map (own_at_pubrec i) own)
    by (inl e) (inl two) s ih = numbered ((i == id) && not (is_qos1 p.qos)) (λ b. two) (ih (inr (clear e)))
    by (inl e) (inr one) (inl has) ih =
        let there : has_sent i (items_of_own own) ≡ true = sym (ap (λ b. has_sent i (if b then SenderItem.Sent k id ∷ items_of_own own else items_of_own own)) one) ∙ has in
        absurd (both_ways (has_id i (busy (items_of_own own))) (not_busy i own (clear e)) (sent_busy i (items_of_own own) there))
    by (inl e) (inr one) (inr none) ih = absurd (both_ways (i == id) (or_none (i == id) (has_id i (ids_of_own own)) none).0 e)
    by (inr e) two (inr none) ih =
        numbered ((i == id) && not (is_qos1 p.qos)) (λ b. absurd (both_ways (i == id) e (both (i == id) (not (is_qos1 p.qos)) b)))
        (ih (inr (or_none (i == id) (has_id i (ids_of_own own)) none).1))
    by (inr e) two (inl has) ih =
        numbered ((i == id) && not (is_qos1 p.qos)) (λ b. absurd (both_ways (i == id) e (both (i == id) (not (is_qos1 p.qos)) b)))
        (ih (inl (there (is_qos2 p.qos) has)))
      where
        there : (b : Bool) → has_sent i (if b then SenderItem.Sent k id ∷ items_of_own own else items_of_own own) ≡ true → has_sent i (items_of_own own) ≡ true
        there true f = or_second (i == id) (has_sent i (items_of_own own)) (has_sent i (items_of_own own)) e f (λ g. g)
        there false f = f
