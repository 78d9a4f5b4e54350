-- All publications that a client did not send start, in order.
use Rattle.std.proofs.Common.{◌≡◌, ℕ, Bool, true, false, ◌==◌, if◌then◌else◌, List, [], ◌∷◌, ◌++◌, refl, ap, sym, ◌∙◌, subst, append_assoc}
use Rattle.std.proofs.lemmas.List.{append-nil}
use Rattle.lists.specs.Lists.{has_id, IsDistinct}
use Rattle.exactly_once.specs.Items.{SenderItem, busy}
use Rattle.exactly_once.specs.Handshake.{Forward, Backward, Transit, Handshake}
use Rattle.lists.proofs.Identifiers.{has_join, other_id}
use Rattle.lists.proofs.Tests.{or_none, or_left, or_right, none_or, eq_turn, eq_same}
use Rattle.exactly_once.proofs.BusyIdentifiers.{busy_append}
use Rattle.client_base.specs.Keeper.{Own, ids_of_own}
use Rattle.client_base.specs.Written.{sent_all, written_first}
use Rattle.exactly_once.specs.Carried.{is_qos2}
use Rattle.exactly_once.specs.Inside.Projections.{items_of_own, forward_of_own}
use Rattle.exactly_once.proofs.publishing.Links.{link_by, Reaches, reaches_itself, reaches_then}
use Rattle.exactly_once.proofs.publishing.Publishes.{forward_publishes}
use Rattle.exactly_once.proofs.publishing.Starting.{NoneWaits, none_waits_more, starts_one}

-- what is in front uses none of these identifiers
abbrev pub IsApart : List ℕ → List (SenderItem ℕ) → Type 0
IsApart ids pre = (i : ℕ) → has_id i ids ≡ true → has_id i (busy pre) ≡ false

-- an item more in front, if it is of QoS 2
abbrev fronted : Bool → SenderItem ℕ → List (SenderItem ℕ) → List (SenderItem ℕ)
fronted two item pre = if two then pre ++ item ∷ [] else pre

none_fronted : (two : Bool) (item : SenderItem ℕ) (pre : List (SenderItem ℕ)) → NoneWaits (item ∷ []) → NoneWaits pre → NoneWaits (fronted two item pre)
none_fronted true item pre o n = none_waits_more pre (item ∷ []) n o
none_fronted false item pre o n = n

apart_fronted : (two : Bool) (item : SenderItem ℕ) (pre : List (SenderItem ℕ)) (id : ℕ) (ids : List ℕ) → busy (item ∷ []) ≡ id ∷ [] → has_id id ids ≡ false → IsApart (id ∷ ids) pre → IsApart ids (fronted two item pre)
apart_fronted true item pre id ids o d a i h =
    ap (has_id i) (busy_append pre (item ∷ []) ∙ ap (λ l. busy pre ++ l) o)
    ∙ has_join i (busy pre) (id ∷ []) (a i (or_right (i == id) (has_id i ids) h)) (none_or (i == id) false (eq_turn id i (other_id id i ids d h)) refl)
apart_fronted false item pre id ids o d a i h = a i (or_right (i == id) (has_id i ids) h)

apart_over : (two : Bool) (item : SenderItem ℕ) (pre : List (SenderItem ℕ)) (ids : List ℕ) → busy (item ∷ []) ≡ [] → IsApart ids pre → IsApart ids (fronted two item pre)
apart_over true item pre ids o a i h = ap (has_id i) (busy_append pre (item ∷ []) ∙ ap (λ l. busy pre ++ l) o ∙ append-nil (busy pre)) ∙ a i h
apart_over false item pre ids o a i h = a i h

-- an item is passed
past_item : (two : Bool) (item : SenderItem ℕ) (pre items later : List (SenderItem ℕ)) (k : Handshake ℕ) (l : Transit ℕ) → k.items ≡ pre ++ (if two then item ∷ items else items)
    → (k.items ≡ fronted two item pre ++ items → Reaches k (fronted two item pre ++ later) l) → Reaches k (pre ++ (if two then item ∷ later else later)) l
past_item true item pre items later k l e next =
    subst (λ (more : List (SenderItem ℕ)). Reaches k more l) (append_assoc pre (item ∷ []) later) (next (e ∙ sym (append_assoc pre (item ∷ []) items)))
past_item false item pre items later k l e next = next e

-- an identifier that no publication has is not that of an item
item_free : (two : Bool) (i : ℕ) (item : SenderItem ℕ) (items : List (SenderItem ℕ)) → has_id i (busy (item ∷ items)) ≡ false → has_id i (busy items) ≡ false → has_id i (busy (if two then item ∷ items else items)) ≡ false
item_free true i item items e f = e
item_free false i item items e f = f

pub not_busy : (i : ℕ) (own : List Own) → has_id i (ids_of_own own) ≡ false → has_id i (busy (items_of_own own)) ≡ false
not_busy i [] h = refl
not_busy i (Own.Queued k p id ∷ own) h =
    let free = not_busy i own (or_none (i == id) (has_id i (ids_of_own own)) h).1 in item_free (is_qos2 p.qos) i (SenderItem.Queued k) (items_of_own own) free free
not_busy i (Own.Sent k p id ∷ own) h =
    let both = or_none (i == id) (has_id i (ids_of_own own)) h in
    let free = not_busy i own both.1 in
    item_free (is_qos2 p.qos) i (SenderItem.Sent k id) (items_of_own own) (none_or (i == id) (has_id i (busy (items_of_own own))) both.0 free) free
not_busy i (Own.Released k p id ∷ own) h =
    let both = or_none (i == id) (has_id i (ids_of_own own)) h in
    let free = not_busy i own both.1 in
    item_free (is_qos2 p.qos) i (SenderItem.Released k id) (items_of_own own) (none_or (i == id) (has_id i (busy (items_of_own own))) both.0 free) free
not_busy i (Own.Done k p ∷ own) h = let free = not_busy i own h in item_free (is_qos2 p.qos) i (SenderItem.Done k) (items_of_own own) free free

-- all start, in order
pub starts_queued : (own : List Own) (pre : List (SenderItem ℕ)) (k : Handshake ℕ) (cur : Bool) (f : List (Forward ℕ)) (b : List Backward) → k.items ≡ pre ++ items_of_own own → NoneWaits pre
    → IsApart (ids_of_own own) pre → IsDistinct (ids_of_own own) → k.transit ≡ link_by cur true f b
    → Reaches k (pre ++ items_of_own (sent_all own)) (link_by cur true (f ++ forward_of_own (written_first own)) b)
starts_queued [] pre k cur f b e n a d l =
    subst (λ (items : List (SenderItem ℕ)). Reaches k items (link_by cur true (f ++ []) b)) e
    (reaches_itself k (link_by cur true (f ++ []) b) (l ∙ ap (λ g. link_by cur true g b) (sym (append-nil f))))
starts_queued (Own.Sent v p id ∷ own) pre k cur f b e n a d l =
    let two = is_qos2 p.qos in
    let item = SenderItem.Sent v id in
    past_item two item pre (items_of_own own) (items_of_own (sent_all own)) k (link_by cur true (f ++ forward_of_own (written_first own)) b) e
    (λ e'. starts_queued own (fronted two item pre) k cur f b e' (none_fronted two item pre tt n) (apart_fronted two item pre id (ids_of_own own) refl d.0 a) d.1 l)
starts_queued (Own.Released v p id ∷ own) pre k cur f b e n a d l =
    let two = is_qos2 p.qos in
    let item = SenderItem.Released v id in
    past_item two item pre (items_of_own own) (items_of_own (sent_all own)) k (link_by cur true (f ++ forward_of_own (written_first own)) b) e
    (λ e'. starts_queued own (fronted two item pre) k cur f b e' (none_fronted two item pre tt n) (apart_fronted two item pre id (ids_of_own own) refl d.0 a) d.1 l)
starts_queued (Own.Done v p ∷ own) pre k cur f b e n a d l =
    let two = is_qos2 p.qos in
    let item = SenderItem.Done v in
    past_item two item pre (items_of_own own) (items_of_own (sent_all own)) k (link_by cur true (f ++ forward_of_own (written_first own)) b) e
    (λ e'. starts_queued own (fronted two item pre) k cur f b e' (none_fronted two item pre tt n) (apart_over two item pre (ids_of_own own) refl a) d l)
starts_queued (Own.Queued v p id ∷ own) pre k cur f b e n a d l =
    subst (λ (g : List (Forward ℕ)). Reaches k (pre ++ items_of_own (sent_all (Own.Queued v p id ∷ own))) (link_by cur true (f ++ g) b)) (sym (forward_publishes false v id p (written_first own)))
    (by (is_qos2 p.qos) e
    (λ e' m. starts_queued own pre k cur f b e' n (λ i h. a i (or_right (i == id) (has_id i (ids_of_own own)) h)) d.1 l)
    (λ j e' l'. starts_queued own (pre ++ SenderItem.Sent v id ∷ []) j cur (f ++ Forward.Publish id v ∷ []) b e' (none_fronted true (SenderItem.Sent v id) pre tt n)
    (apart_fronted true (SenderItem.Sent v id) pre id (ids_of_own own) refl d.0 a) d.1 l'))
  where
    by : (two : Bool) → k.items ≡ pre ++ (if two then SenderItem.Queued v ∷ items_of_own own else items_of_own own)
        → (k.items ≡ pre ++ items_of_own own → Unit {0} → Reaches k (pre ++ items_of_own (sent_all own)) (link_by cur true (f ++ forward_of_own (written_first own)) b))
        → ((j : Handshake ℕ) → j.items ≡ (pre ++ SenderItem.Sent v id ∷ []) ++ items_of_own own → j.transit ≡ link_by cur true (f ++ Forward.Publish id v ∷ []) b
        → Reaches j ((pre ++ SenderItem.Sent v id ∷ []) ++ items_of_own (sent_all own)) (link_by cur true ((f ++ Forward.Publish id v ∷ []) ++ forward_of_own (written_first own)) b))
        → Reaches k (pre ++ (if two then SenderItem.Sent v id ∷ items_of_own (sent_all own) else items_of_own (sent_all own)))
        (link_by cur true (f ++ (if two then Forward.Publish id v ∷ forward_of_own (written_first own) else forward_of_own (written_first own))) b)
    by false e' g h = g e' tt
    by true e' g h =
        let goal = link_by cur true ((f ++ Forward.Publish id v ∷ []) ++ forward_of_own (written_first own)) b in
        let one = starts_one k pre (items_of_own own) v id cur f b e' n (a id (or_left (id == id) (has_id id (ids_of_own own)) (eq_same id))) (not_busy id own d.0) l in
        let all = reaches_then k ((pre ++ SenderItem.Sent v id ∷ []) ++ items_of_own own) ((pre ++ SenderItem.Sent v id ∷ []) ++ items_of_own (sent_all own)) (link_by cur true (f ++ Forward.Publish id v ∷ []) b) goal one h in
        subst (λ (g' : List (Forward ℕ)). Reaches k (pre ++ SenderItem.Sent v id ∷ items_of_own (sent_all own)) (link_by cur true g' b)) (append_assoc f (Forward.Publish id v ∷ []) (forward_of_own (written_first own)))
        (subst (λ (items : List (SenderItem ℕ)). Reaches k items goal) (append_assoc pre (SenderItem.Sent v id ∷ []) (items_of_own (sent_all own))) all)
