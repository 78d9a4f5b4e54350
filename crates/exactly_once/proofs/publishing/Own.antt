-- What the answers to a client's publications make of them as items of a handshake.
use Rattle.std.proofs.Common.{◌≡◌, ℕ, Bool, true, false, not, ◌&&◌, ◌||◌, ◌==◌, if◌then◌else◌, List, [], ◌∷◌, map, refl, ap, ap₂, sym, ◌∙◌, inl, inr, ◌⊎◌}
use Rattle.std.proofs.lemmas.Bool.{both_ways, cases_Bool}
use Rattle.packet_base.specs.declared.qos.QoS.{QoS}
use Rattle.packet_base.specs.declared.qos.QoS.TheVariants as qos_levels
use Rattle.session_base.specs.declared.publication.Publication.{Publication}
use Rattle.session_base.specs.Publication.{is_qos1}
use Rattle.exactly_once.specs.Items.{SenderItem, item_released, finishing, has_sent}
use Rattle.lists.proofs.Tests.{or_right}
use Rattle.client_base.specs.Keeper.{Own}
use Rattle.client_base.specs.Handshakes.{own_at_puback, own_at_pubrec, own_at_pubcomp, is_sent_with}
use Rattle.exactly_once.specs.Carried.{is_qos2}
use Rattle.exactly_once.specs.Inside.Projections.{items_of_own, own_item}

two_unacknowledged : (q : QoS) → is_qos2 q ≡ true → is_qos1 q ≡ false
two_unacknowledged qos_levels.AtMostOnce e = refl
two_unacknowledged qos_levels.AtLeastOnce e = absurd (both_ways false refl e)
two_unacknowledged qos_levels.ExactlyOnce e = refl

-- one item changes, and the others change as a map does
own_map : (g : SenderItem ℕ → SenderItem ℕ) (p : Publication) (x y : SenderItem ℕ) (es fs : List (SenderItem ℕ)) → y ≡ g x → fs ≡ map g es → own_item p y fs ≡ map g (own_item p x es)
own_map g p x y es fs e f = by (is_qos2 p.qos)
  where
    by : (b : Bool) → (if b then y ∷ fs else fs) ≡ map g (if b then x ∷ es else es)
    by true = ap₂ (λ z l. z ∷ l) e f
    by false = f

-- a PUBREC releases
pub items_released : (i : ℕ) (own : List Own) → items_of_own (map (own_at_pubrec i) own) ≡ map (item_released i) (items_of_own own)
items_released i [] = refl
items_released i (Own.Queued k p id ∷ own) = own_map (item_released i) p (SenderItem.Queued k) (SenderItem.Queued k) (items_of_own own) (items_of_own (map (own_at_pubrec i) own)) refl (items_released i own)
items_released i (Own.Sent k p id ∷ own) = by (cases_Bool (i == id)) (is_qos1 p.qos) (cases_Bool (is_qos2 p.qos)) (two_unacknowledged p.qos) (items_released i own)
  where
    by : ((i == id) ≡ true) ⊎ ((i == id) ≡ false) → (a : Bool) → (is_qos2 p.qos ≡ true) ⊎ (is_qos2 p.qos ≡ false) → (is_qos2 p.qos ≡ true → a ≡ false)
        → items_of_own (map (own_at_pubrec i) own) ≡ map (item_released i) (items_of_own own)
        → items_of_own ((if (i == id) && not a then Own.Released k p id else Own.Sent k p id) ∷ map (own_at_pubrec i) own) ≡ map (item_released i) (own_item p (SenderItem.Sent k id) (items_of_own own))
    by (inl b) true (inl t) n ih = absurd (both_ways true (n t) refl)
    by (inl b) false (inl t) n ih = rw (b, t) (rw b (ap (λ l. SenderItem.Released k id ∷ l) ih))
    by (inl b) true (inr t) n ih = rw (b, t) ih
    by (inl b) false (inr t) n ih = rw (b, t) ih
    by (inr b) a (inl t) n ih = rw (b, t) (rw b (ap (λ l. SenderItem.Sent k id ∷ l) ih))
    by (inr b) a (inr t) n ih = rw (b, t) ih
items_released i (Own.Released k p id ∷ own) =
    own_map (item_released i) p (SenderItem.Released k id) (SenderItem.Released k id) (items_of_own own) (items_of_own (map (own_at_pubrec i) own)) refl (items_released i own)
items_released i (Own.Done k p ∷ own) = own_map (item_released i) p (SenderItem.Done k) (SenderItem.Done k) (items_of_own own) (items_of_own (map (own_at_pubrec i) own)) refl (items_released i own)

-- a PUBCOMP finishes
pub items_finished : (i : ℕ) (own : List Own) → items_of_own (map (own_at_pubcomp i) own) ≡ map (finishing i) (items_of_own own)
items_finished i [] = refl
items_finished i (Own.Queued k p id ∷ own) = own_map (finishing i) p (SenderItem.Queued k) (SenderItem.Queued k) (items_of_own own) (items_of_own (map (own_at_pubcomp i) own)) refl (items_finished i own)
items_finished i (Own.Sent k p id ∷ own) = own_map (finishing i) p (SenderItem.Sent k id) (SenderItem.Sent k id) (items_of_own own) (items_of_own (map (own_at_pubcomp i) own)) refl (items_finished i own)
items_finished i (Own.Released k p id ∷ own) = by (cases_Bool (i == id)) (items_finished i own)
  where
    by : ((i == id) ≡ true) ⊎ ((i == id) ≡ false) → items_of_own (map (own_at_pubcomp i) own) ≡ map (finishing i) (items_of_own own)
        → items_of_own (own_at_pubcomp i (Own.Released k p id) ∷ map (own_at_pubcomp i) own) ≡ map (finishing i) (own_item p (SenderItem.Released k id) (items_of_own own))
    by (inl b) ih = rw b (own_map (finishing i) p (SenderItem.Released k id) (SenderItem.Done k) (items_of_own own) (items_of_own (map (own_at_pubcomp i) own)) (rw b refl) ih)
    by (inr b) ih = rw b (own_map (finishing i) p (SenderItem.Released k id) (SenderItem.Released k id) (items_of_own own) (items_of_own (map (own_at_pubcomp i) own)) (rw b refl) ih)
items_finished i (Own.Done k p ∷ own) = own_map (finishing i) p (SenderItem.Done k) (SenderItem.Done k) (items_of_own own) (items_of_own (map (own_at_pubcomp i) own)) refl (items_finished i own)

-- ---- PUBACK is of no item

own_same : (p : Publication) (x : SenderItem ℕ) (es fs : List (SenderItem ℕ)) → fs ≡ es → own_item p x fs ≡ own_item p x es
own_same p x es fs e = ap (own_item p x) e

pub items_acknowledged : (i : ℕ) (own : List Own) → items_of_own (map (own_at_puback i) own) ≡ items_of_own own
items_acknowledged i [] = refl
items_acknowledged i (Own.Queued k p id ∷ own) = own_same p (SenderItem.Queued k) (items_of_own own) (items_of_own (map (own_at_puback i) own)) (items_acknowledged i own)
items_acknowledged i (Own.Sent k p id ∷ own) = by (i == id) (is_qos1 p.qos) (cases_Bool (is_qos2 p.qos)) (two_unacknowledged p.qos) (items_acknowledged i own)
  where
    by : (b a : Bool) → (is_qos2 p.qos ≡ true) ⊎ (is_qos2 p.qos ≡ false) → (is_qos2 p.qos ≡ true → a ≡ false) → items_of_own (map (own_at_puback i) own) ≡ items_of_own own
        → items_of_own ((if b && a then Own.Done k p else Own.Sent k p id) ∷ map (own_at_puback i) own) ≡ own_item p (SenderItem.Sent k id) (items_of_own own)
    by true true (inl t) n ih = absurd (both_ways true (n t) refl)
    by true true (inr t) n ih = rw t ih
    by true false t n ih = own_same p (SenderItem.Sent k id) (items_of_own own) (items_of_own (map (own_at_puback i) own)) ih
    by false a t n ih = own_same p (SenderItem.Sent k id) (items_of_own own) (items_of_own (map (own_at_puback i) own)) ih
items_acknowledged i (Own.Released k p id ∷ own) = own_same p (SenderItem.Released k id) (items_of_own own) (items_of_own (map (own_at_puback i) own)) (items_acknowledged i own)
items_acknowledged i (Own.Done k p ∷ own) = own_same p (SenderItem.Done k) (items_of_own own) (items_of_own (map (own_at_puback i) own)) (items_acknowledged i own)

-- ---- a sent item is a sent publication

skipped : (i : ℕ) (b : Bool) (x : SenderItem ℕ) (items : List (SenderItem ℕ)) → has_sent i (x ∷ items) ≡ has_sent i items → has_sent i (if b then x ∷ items else items) ≡ true → has_sent i items ≡ true
skipped i true x items e h = sym e ∙ h
skipped i false x items e h = h

pub sent_then : (i : ℕ) (own : List Own) → has_sent i (items_of_own own) ≡ true → is_sent_with i own ≡ true
sent_then i [] h = h
sent_then i (Own.Queued k p id ∷ own) h = sent_then i own (skipped i (is_qos2 p.qos) (SenderItem.Queued k) (items_of_own own) refl h)
sent_then i (Own.Sent k p id ∷ own) h = by (cases_Bool (is_qos2 p.qos)) (sent_then i own)
  where
    first : (b a : Bool) → a ≡ false → (b || has_sent i (items_of_own own)) ≡ true → (has_sent i (items_of_own own) ≡ true → is_sent_with i own ≡ true)
        → ((b && not a) || is_sent_with i own) ≡ true
    first b true n h ih = absurd (both_ways true n refl)
    first true false n h ih = refl
    first false false n h ih = ih h

    by : (is_qos2 p.qos ≡ true) ⊎ (is_qos2 p.qos ≡ false) → (has_sent i (items_of_own own) ≡ true → is_sent_with i own ≡ true)
        → ((((i == id) && not (is_qos1 p.qos)) || is_sent_with i own) ≡ true)
    by (inl t) ih =
        first (i == id) (is_qos1 p.qos) (two_unacknowledged p.qos t)
        (sym (ap (λ b. has_sent i (if b then SenderItem.Sent k id ∷ items_of_own own else items_of_own own)) t) ∙ h) ih
    by (inr t) ih =
        or_right ((i == id) && not (is_qos1 p.qos)) (is_sent_with i own)
        (ih (sym (ap (λ b. has_sent i (if b then SenderItem.Sent k id ∷ items_of_own own else items_of_own own)) t) ∙ h))
sent_then i (Own.Released k p id ∷ own) h = sent_then i own (skipped i (is_qos2 p.qos) (SenderItem.Released k id) (items_of_own own) refl h)
sent_then i (Own.Done k p ∷ own) h = sent_then i own (skipped i (is_qos2 p.qos) (SenderItem.Done k) (items_of_own own) refl h)
