-- What an answer of the client does to its entries, and what its place sends.
use Rattle.std.proofs.Common.{◌≡◌, ℕ, suc, Bool, true, false, not, ◌&&◌, ◌||◌, ◌==◌, if◌then◌else◌, List, [], ◌∷◌, ◌++◌, map, None, refl, ap, sym, ◌∙◌, ◌⊎◌, inl, inr}
use Rattle.std.proofs.lemmas.Bool.{both_ways, cases_Bool}
use Rattle.packet_base.specs.declared.qos.QoS.{QoS}
use Rattle.packet_base.specs.declared.qos.QoS.TheVariants as qos_levels
use Rattle.session_base.specs.declared.publication.Publication.{Publication}
use Rattle.session_base.specs.Publication.{is_qos1}
use Rattle.lists.specs.Lists.{has_id}
use Rattle.broker_spec.specs.Entries.{Entry}
use Rattle.broker_spec.specs.Readings.{released_at}
use Rattle.broker_spec.specs.Times.{at_puback, at_pubrec}
use Rattle.broker_spec.proofs.NothingWaits.{IsFull}
use Rattle.exactly_once.specs.Items.{SenderItem, has_sent}
use Rattle.lists.proofs.Tests.{or_right, or_left, eq_same}
use Rattle.exactly_once.specs.Carried.{is_qos2}
use Rattle.exactly_once.specs.Inside.AsSubscriber.{items_of_entries, two_item}
use Rattle.exactly_once.proofs.Items.{AllQueued}
use Rattle.exactly_once.proofs.subscribing.Queued.{AreKept, two_answered}

-- entries of QoS 1 or 2
pub all_queued : (es : List Entry) → AreKept es → AllQueued es
all_queued [] h = tt
all_queued (Entry.Queued made p ∷ es) h = (h.0, all_queued es h.1)
all_queued (Entry.Sent made p id start ∷ es) h = (h.0, all_queued es h.1)
all_queued (Entry.Released made p id start release ∷ es) h = (two_answered p.qos h.0, all_queued es h.1)
all_queued (Entry.Done made p id start release finish ∷ es) h = (h.0, all_queued es h.1)

-- QoS 2 is not acknowledged by a PUBACK
two_not : (p : Publication) → is_qos2 p.qos ≡ true → is_qos1 p.qos ≡ false
two_not p e = by p.qos e
  where
    by : (q : QoS) → is_qos2 q ≡ true → is_qos1 q ≡ false
    by qos_levels.AtMostOnce e = absurd (both_ways false refl e)
    by qos_levels.AtLeastOnce e = absurd (both_ways false refl e)
    by qos_levels.ExactlyOnce e = refl

-- an item more in front
one_more : (p : Publication) (x : SenderItem Publication) (es fs : List (SenderItem Publication)) → es ≡ fs → two_item p x es ≡ two_item p x fs
one_more p x es fs e = ap (two_item p x) e

-- PUBACK changes no item of QoS 2
pub items_puback : (n i : ℕ) (es : List Entry) → items_of_entries (map (at_puback n i) es) ≡ items_of_entries es
items_puback n i [] = refl
items_puback n i (Entry.Queued made p ∷ es) = one_more p (SenderItem.Queued p) (items_of_entries (map (at_puback n i) es)) (items_of_entries es) (items_puback n i es)
items_puback n i (Entry.Sent made p id start ∷ es) = by (i == id) (cases_Bool (is_qos2 p.qos)) (items_puback n i es)
  where
    pick : (b : Bool) → is_qos2 p.qos ≡ false → items_of_entries (map (at_puback n i) es) ≡ items_of_entries es
        → items_of_entries ((if b then Entry.Done made p id start None n else Entry.Sent made p id start) ∷ map (at_puback n i) es) ≡ two_item p (SenderItem.Sent p id) (items_of_entries es)
    pick true t ih = rw t ih
    pick false t ih = one_more p (SenderItem.Sent p id) (items_of_entries (map (at_puback n i) es)) (items_of_entries es) ih

    by : (b : Bool) → (is_qos2 p.qos ≡ true) ⊎ (is_qos2 p.qos ≡ false) → items_of_entries (map (at_puback n i) es) ≡ items_of_entries es
        → items_of_entries ((if b && is_qos1 p.qos then Entry.Done made p id start None n else Entry.Sent made p id start) ∷ map (at_puback n i) es) ≡ two_item p (SenderItem.Sent p id) (items_of_entries es)
    by false t ih = one_more p (SenderItem.Sent p id) (items_of_entries (map (at_puback n i) es)) (items_of_entries es) ih
    by true (inl t) ih = rw (two_not p t) (one_more p (SenderItem.Sent p id) (items_of_entries (map (at_puback n i) es)) (items_of_entries es) ih)
    by true (inr t) ih = pick (is_qos1 p.qos) t ih
items_puback n i (Entry.Released made p id start release ∷ es) = one_more p (SenderItem.Released p id) (items_of_entries (map (at_puback n i) es)) (items_of_entries es) (items_puback n i es)
items_puback n i (Entry.Done made p id start release finish ∷ es) = one_more p (SenderItem.Done p) (items_of_entries (map (at_puback n i) es)) (items_of_entries es) (items_puback n i es)

-- PUBREC leaves a full window full
pub full_pubrec : (w k n i : ℕ) (es : List Entry) → IsFull w k es → IsFull w k (map (at_pubrec n i) es)
full_pubrec w k n i [] f = tt
full_pubrec w k n i (Entry.Queued made p ∷ es) f = (f.0, full_pubrec w (suc k) n i es f.1)
full_pubrec w k n i (Entry.Sent made p id start ∷ es) f = by ((i == id) && not (is_qos1 p.qos)) (full_pubrec w (suc k) n i es f)
  where
    by : (b : Bool) → IsFull w (suc k) (map (at_pubrec n i) es) → IsFull w k ((if b then Entry.Released made p id start n else Entry.Sent made p id start) ∷ map (at_pubrec n i) es)
    by true g = g
    by false g = g
full_pubrec w k n i (Entry.Released made p id start release ∷ es) f = full_pubrec w (suc k) n i es f
full_pubrec w k n i (Entry.Done made p id start release finish ∷ es) f = full_pubrec w k n i es f

-- an item in front that is not sent
skipped : (i : ℕ) (b : Bool) (x : SenderItem Publication) (items : List (SenderItem Publication)) → (has_sent i (x ∷ items) ≡ true → has_sent i items ≡ true) → has_sent i (if b then x ∷ items else items) ≡ true → has_sent i items ≡ true
skipped i true x items f e = f e
skipped i false x items f e = e

-- a sent item is released by its PUBREC
pub now_released : (n i : ℕ) (es : List Entry) → has_sent i (items_of_entries es) ≡ true → has_id i (released_at n (map (at_pubrec n i) es)) ≡ true
now_released n i [] e = absurd (both_ways false refl e)
now_released n i (Entry.Queued made p ∷ es) e = now_released n i es (skipped i (is_qos2 p.qos) (SenderItem.Queued p) (items_of_entries es) (λ e. e) e)
now_released n i (Entry.Sent made p id start ∷ es) e = by (cases_Bool (i == id)) (cases_Bool (is_qos2 p.qos)) (now_released n i es)
  where
    rest : Entry → List ℕ
    rest entry = released_at n (entry ∷ map (at_pubrec n i) es)

    kept : (b : Bool) → has_id i (released_at n (map (at_pubrec n i) es)) ≡ true → has_id i (rest (if b then Entry.Released made p id start n else Entry.Sent made p id start)) ≡ true
    kept true h = rw (eq_same n) (or_right (i == id) (has_id i (released_at n (map (at_pubrec n i) es))) h)
    kept false h = h

    drop_sent : (b : Bool) → (i == id) ≡ false → has_sent i (if b then SenderItem.Sent p id ∷ items_of_entries es else items_of_entries es) ≡ true → has_sent i (items_of_entries es) ≡ true
    drop_sent true n e = sym (ap (λ b. b || has_sent i (items_of_entries es)) n) ∙ e
    drop_sent false n e = e

    by : ((i == id) ≡ true) ⊎ ((i == id) ≡ false) → (is_qos2 p.qos ≡ true) ⊎ (is_qos2 p.qos ≡ false) → (has_sent i (items_of_entries es) ≡ true → has_id i (released_at n (map (at_pubrec n i) es)) ≡ true)
        → has_id i (rest (at_pubrec n i (Entry.Sent made p id start))) ≡ true
    by (inl b) (inl t) ih = rw (b, two_not p t) (rw (eq_same n) (or_left (i == id) (has_id i (released_at n (map (at_pubrec n i) es))) b))
    by (inl b) (inr t) ih = kept ((i == id) && not (is_qos1 p.qos)) (ih (sym (ap (λ z. has_sent i (if z then SenderItem.Sent p id ∷ items_of_entries es else items_of_entries es)) t) ∙ e))
    by (inr b) t ih = kept ((i == id) && not (is_qos1 p.qos)) (ih (drop_sent (is_qos2 p.qos) b e))
now_released n i (Entry.Released made p id start release ∷ es) e = by (release == n) (now_released n i es (skipped i (is_qos2 p.qos) (SenderItem.Released p id) (items_of_entries es) (λ e. e) e))
  where
    by : (b : Bool) → has_id i (released_at n (map (at_pubrec n i) es)) ≡ true → has_id i (if b then id ∷ released_at n (map (at_pubrec n i) es) else released_at n (map (at_pubrec n i) es)) ≡ true
    by true h = or_right (i == id) (has_id i (released_at n (map (at_pubrec n i) es))) h
    by false h = h
now_released n i (Entry.Done made p id start release finish ∷ es) e = now_released n i es (skipped i (is_qos2 p.qos) (SenderItem.Done p) (items_of_entries es) (λ e. e) e)

-- identifiers after others
pub has_after : (i : ℕ) (xs ys : List ℕ) → has_id i ys ≡ true → has_id i (xs ++ ys) ≡ true
has_after i [] ys h = h
has_after i (x ∷ xs) ys h = or_right (i == x) (has_id i (xs ++ ys)) (has_after i xs ys h)
