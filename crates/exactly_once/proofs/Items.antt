-- The QoS 2 entries of a session as items of a handshake: what the client's answers and new entries make of them.
use Rattle.std.proofs.Common.{◌≡◌, ℕ, Bool, true, false, not, ◌==◌, if◌then◌else◌, List, [], ◌∷◌, ◌++◌, map, refl, ap, ap₂, inl, inr, ◌⊎◌}
use Rattle.std.proofs.lemmas.Bool.{both_ways, cases_Bool}
use Rattle.packet_base.specs.declared.qos.QoS.{QoS}
use Rattle.packet_base.specs.declared.qos.QoS.TheVariants as qos_levels
use Rattle.session_base.specs.declared.publication.Publication.{Publication}
use Rattle.session_base.specs.Publication.{is_qos1, is_answered}
use Rattle.broker_spec.specs.Entries.{Entry}
use Rattle.broker_spec.specs.Times.{at_pubrec, at_pubcomp}
use Rattle.exactly_once.specs.Items.{SenderItem, item_released, finishing}
use Rattle.exactly_once.specs.Carried.{is_qos2}
use Rattle.exactly_once.specs.Inside.AsSubscriber.{items_of_entries, two_item}

-- an entry is of QoS 1 or 2
abbrev pub IsQueued : Entry → Type 0
IsQueued (Entry.Queued made p) = is_answered p.qos ≡ true
IsQueued (Entry.Sent made p id start) = is_answered p.qos ≡ true
IsQueued (Entry.Released made p id start release) = is_answered p.qos ≡ true
IsQueued (Entry.Done made p id start release finish) = is_answered p.qos ≡ true

two_or_one : (q : QoS) → is_answered q ≡ true → is_qos2 q ≡ not (is_qos1 q)
two_or_one qos_levels.AtMostOnce e = e
two_or_one qos_levels.AtLeastOnce e = refl
two_or_one qos_levels.ExactlyOnce e = refl

two_not_one : (q : QoS) → is_qos2 q ≡ true → is_qos1 q ≡ false
two_not_one qos_levels.AtMostOnce e = absurd (both_ways false refl e)
two_not_one qos_levels.AtLeastOnce e = absurd (both_ways false refl e)
two_not_one qos_levels.ExactlyOnce e = refl

not_two_one : (q : QoS) → is_answered q ≡ true → is_qos2 q ≡ false → is_qos1 q ≡ true
not_two_one qos_levels.AtMostOnce a e = absurd (both_ways false refl a)
not_two_one qos_levels.AtLeastOnce a e = refl
not_two_one qos_levels.ExactlyOnce a e = absurd (both_ways true e refl)

abbrev pub AllQueued : List Entry → Type 0
AllQueued (e ∷ es) = IsQueued e × AllQueued es
AllQueued [] = Unit {0}

-- ---- PUBREC

pub items_pubrec : (n i : ℕ) (es : List Entry) → AllQueued es → items_of_entries (map (at_pubrec n i) es) ≡ map (item_released i) (items_of_entries es)
items_pubrec n i [] h = refl
items_pubrec n i (Entry.Queued made p ∷ es) h = by (is_qos2 p.qos) (items_pubrec n i es h.1)
  where
    by : (b : Bool) → items_of_entries (map (at_pubrec n i) es) ≡ map (item_released i) (items_of_entries es)
        → (if b then SenderItem.Queued p ∷ items_of_entries (map (at_pubrec n i) es) else items_of_entries (map (at_pubrec n i) es)) ≡ map (item_released i) (if b then SenderItem.Queued p ∷ items_of_entries es else items_of_entries es)
    by true ih = ap (λ l. SenderItem.Queued p ∷ l) ih
    by false ih = ih
items_pubrec n i (Entry.Sent made p id start ∷ es) h = by (cases_Bool (i == id)) (cases_Bool (is_qos2 p.qos)) (items_pubrec n i es h.1)
  where
    by : ((i == id) ≡ true) ⊎ ((i == id) ≡ false) → (is_qos2 p.qos ≡ true) ⊎ (is_qos2 p.qos ≡ false) → items_of_entries (map (at_pubrec n i) es) ≡ map (item_released i) (items_of_entries es)
        → items_of_entries (at_pubrec n i (Entry.Sent made p id start) ∷ map (at_pubrec n i) es) ≡ map (item_released i) (two_item p (SenderItem.Sent p id) (items_of_entries es))
    by (inl b) (inl t) ih = rw (b, t, two_not_one p.qos t) (rw t (rw b (ap (λ l. SenderItem.Released p id ∷ l) ih)))
    by (inl b) (inr t) ih = rw (b, t, not_two_one p.qos h.0 t) (rw t ih)
    by (inr b) (inl t) ih = rw (b, t) (rw b (ap (λ l. SenderItem.Sent p id ∷ l) ih))
    by (inr b) (inr t) ih = rw (b, t) ih
items_pubrec n i (Entry.Released made p id start release ∷ es) h = by (is_qos2 p.qos) (items_pubrec n i es h.1)
  where
    by : (b : Bool) → items_of_entries (map (at_pubrec n i) es) ≡ map (item_released i) (items_of_entries es)
        → (if b then SenderItem.Released p id ∷ items_of_entries (map (at_pubrec n i) es) else items_of_entries (map (at_pubrec n i) es)) ≡ map (item_released i) (if b then SenderItem.Released p id ∷ items_of_entries es else items_of_entries es)
    by true ih = ap (λ l. SenderItem.Released p id ∷ l) ih
    by false ih = ih
items_pubrec n i (Entry.Done made p id start release finish ∷ es) h = by (is_qos2 p.qos) (items_pubrec n i es h.1)
  where
    by : (b : Bool) → items_of_entries (map (at_pubrec n i) es) ≡ map (item_released i) (items_of_entries es)
        → (if b then SenderItem.Done p ∷ items_of_entries (map (at_pubrec n i) es) else items_of_entries (map (at_pubrec n i) es)) ≡ map (item_released i) (if b then SenderItem.Done p ∷ items_of_entries es else items_of_entries es)
    by true ih = ap (λ l. SenderItem.Done p ∷ l) ih
    by false ih = ih

-- ---- PUBCOMP

two_map : (i : ℕ) (p : Publication) (x y : SenderItem Publication) (es fs : List (SenderItem Publication)) → y ≡ finishing i x → fs ≡ map (finishing i) es → two_item p y fs ≡ map (finishing i) (two_item p x es)
two_map i p x y es fs e f = by (is_qos2 p.qos)
  where
    by : (b : Bool) → (if b then y ∷ fs else fs) ≡ map (finishing i) (if b then x ∷ es else es)
    by true = ap₂ (λ z l. z ∷ l) e f
    by false = f

pub items_pubcomp : (n i : ℕ) (es : List Entry) → items_of_entries (map (at_pubcomp n i) es) ≡ map (finishing i) (items_of_entries es)
items_pubcomp n i [] = refl
items_pubcomp n i (Entry.Queued made p ∷ es) = two_map i p (SenderItem.Queued p) (SenderItem.Queued p) (items_of_entries es) (items_of_entries (map (at_pubcomp n i) es)) refl (items_pubcomp n i es)
items_pubcomp n i (Entry.Sent made p id start ∷ es) = two_map i p (SenderItem.Sent p id) (SenderItem.Sent p id) (items_of_entries es) (items_of_entries (map (at_pubcomp n i) es)) refl (items_pubcomp n i es)
items_pubcomp n i (Entry.Released made p id start release ∷ es) = by (cases_Bool (i == id)) (items_pubcomp n i es)
  where
    by : ((i == id) ≡ true) ⊎ ((i == id) ≡ false) → items_of_entries (map (at_pubcomp n i) es) ≡ map (finishing i) (items_of_entries es)
        → items_of_entries (at_pubcomp n i (Entry.Released made p id start release) ∷ map (at_pubcomp n i) es) ≡ map (finishing i) (two_item p (SenderItem.Released p id) (items_of_entries es))
    by (inl b) ih = rw b (two_map i p (SenderItem.Released p id) (SenderItem.Done p) (items_of_entries es) (items_of_entries (map (at_pubcomp n i) es)) (rw b refl) ih)
    by (inr b) ih = rw b (two_map i p (SenderItem.Released p id) (SenderItem.Released p id) (items_of_entries es) (items_of_entries (map (at_pubcomp n i) es)) (rw b refl) ih)
items_pubcomp n i (Entry.Done made p id start release finish ∷ es) = two_map i p (SenderItem.Done p) (SenderItem.Done p) (items_of_entries es) (items_of_entries (map (at_pubcomp n i) es)) refl (items_pubcomp n i es)

-- ---- new entries

two_append : (p : Publication) (x : SenderItem Publication) (es more all : List (SenderItem Publication)) → all ≡ es ++ more → two_item p x all ≡ two_item p x es ++ more
two_append p x es more all e = by (is_qos2 p.qos)
  where
    by : (b : Bool) → (if b then x ∷ all else all) ≡ (if b then x ∷ es else es) ++ more
    by true = ap (λ l. x ∷ l) e
    by false = e

pub items_append : (es more : List Entry) → items_of_entries (es ++ more) ≡ items_of_entries es ++ items_of_entries more
items_append [] more = refl
items_append (Entry.Queued made p ∷ es) more = two_append p (SenderItem.Queued p) (items_of_entries es) (items_of_entries more) (items_of_entries (es ++ more)) (items_append es more)
items_append (Entry.Sent made p id start ∷ es) more = two_append p (SenderItem.Sent p id) (items_of_entries es) (items_of_entries more) (items_of_entries (es ++ more)) (items_append es more)
items_append (Entry.Released made p id start release ∷ es) more = two_append p (SenderItem.Released p id) (items_of_entries es) (items_of_entries more) (items_of_entries (es ++ more)) (items_append es more)
items_append (Entry.Done made p id start release finish ∷ es) more = two_append p (SenderItem.Done p) (items_of_entries es) (items_of_entries more) (items_of_entries (es ++ more)) (items_append es more)
