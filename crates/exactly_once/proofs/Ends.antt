-- What two good handshakes say about a story: the client's publications, and what it accepted.
use Rattle.std.proofs.Common.{◌≡◌, ℕ, Bool, true, false, if◌then◌else◌, List, [], ◌∷◌, ◌++◌, map, refl, ap, ap₂, sym, ◌∙◌, subst}
use Rattle.std.proofs.lemmas.List.{map-append}
use Rattle.std.proofs.lemmas.Bool.{both_ways}
use Rattle.session_base.specs.declared.publication.Publication.{Publication}
use Rattle.broker_spec.specs.Place.{Limits}
use Rattle.broker_spec.specs.Entries.{Entry}
use Rattle.broker_spec.specs.Readings.{publication_in}
use Rattle.broker_spec.specs.Times.{entries_of}
use Rattle.lists.specs.Lists.{Each, IsPrefixOf}
use Rattle.exactly_once.specs.Items.{SenderItem, value_of}
use Rattle.exactly_once.specs.Exact.{is_pubrec_received}
use Rattle.exactly_once.specs.Handshake.{Handshake}
use Rattle.exactly_once.specs.HandshakeInvariant.{IsGood}
use Rattle.exactly_once.proofs.Exact.{good_exact, good_run}
use Rattle.exactly_once.specs.Carried.{is_qos2, new_numbers, own_qos2_numbers}
use Rattle.client_base.specs.Keeper.{Own}
use Rattle.exactly_once.specs.Acceptance.{AcceptedInOrder, qos2_entries, is_entry_released}
use Rattle.exactly_once.specs.Inside.Projections.{items_of_own, as_publisher, IsLike, GoesTo}
use Rattle.exactly_once.specs.Inside.AsSubscriber.{items_of_entries, two_item, as_subscriber}
use Rattle.exactly_once.specs.Story.{Story}

-- two handshakes that differ in nothing are one
pub like_is : {A : Type 0} (h k : Handshake A) → IsLike h k → h ≡ k
like_is h k l = λ i. record { items = l.items i; accepted = l.accepted i; received = λ id. l.received id i; transit = l.transit i }

pub good_goes : {A : Type 0} (h k : Handshake A) → IsGood h → GoesTo h k → IsGood k
good_goes h k g t = subst IsGood (like_is t.between k t.like) (good_run h t.between g t.run)

-- ---- entries and items

abbrev pub item_of : Entry → SenderItem Publication
item_of (Entry.Queued made p) = SenderItem.Queued p
item_of (Entry.Sent made p id start) = SenderItem.Sent p id
item_of (Entry.Released made p id start release) = SenderItem.Released p id
item_of (Entry.Done made p id start release finish) = SenderItem.Done p

two_by : (entry : Entry) (es : List Entry) (items : List (SenderItem Publication)) → map item_of (qos2_entries es) ≡ items
    → map item_of (qos2_entries (entry ∷ es)) ≡ two_item (publication_in entry) (item_of entry) items
two_by entry es items e = by (is_qos2 (publication_in entry).qos)
  where
    by : (b : Bool) → map item_of (if b then entry ∷ qos2_entries es else qos2_entries es) ≡ (if b then item_of entry ∷ items else items)
    by true = ap (λ l. item_of entry ∷ l) e
    by false = e

items_are : (es : List Entry) → map item_of (qos2_entries es) ≡ items_of_entries es
items_are [] = refl
items_are (Entry.Queued made p ∷ es) = two_by (Entry.Queued made p) es (items_of_entries es) (items_are es)
items_are (Entry.Sent made p id start ∷ es) = two_by (Entry.Sent made p id start) es (items_of_entries es) (items_are es)
items_are (Entry.Released made p id start release ∷ es) = two_by (Entry.Released made p id start release) es (items_of_entries es) (items_are es)
items_are (Entry.Done made p id start release finish ∷ es) = two_by (Entry.Done made p id start release finish) es (items_of_entries es) (items_are es)

value_is : (entry : Entry) → value_of (item_of entry) ≡ publication_in entry
value_is (Entry.Queued made p) = refl
value_is (Entry.Sent made p id start) = refl
value_is (Entry.Released made p id start release) = refl
value_is (Entry.Done made p id start release finish) = refl

values_are : (es : List Entry) → map value_of (map item_of es) ≡ map publication_in es
values_are [] = refl
values_are (entry ∷ es) = ap₂ (λ x l. x ∷ l) (value_is entry) (values_are es)

not_over : (entry : Entry) → is_pubrec_received (item_of entry) ≡ false → is_entry_released entry ≡ false
not_over (Entry.Queued made p) e = refl
not_over (Entry.Sent made p id start) e = refl
not_over (Entry.Released made p id start release) e = absurd (both_ways true e refl)
not_over (Entry.Done made p id start release finish) e = absurd (both_ways true e refl)

nones_over : (es : List Entry) → Each (λ item. is_pubrec_received item ≡ false) (map item_of es) → Each (λ entry. is_entry_released entry ≡ false) es
nones_over [] h = tt
nones_over (entry ∷ es) h = (not_over entry h.0, nones_over es h.1)

pub record Split {A B : Type 0} (f : A → B) (xs : List A) (ys zs : List B) : Type 0 where
  pub front : List A
  pub behind : List A
  pub is : xs ≡ front ++ behind
  pub front_is : map f front ≡ ys
  pub behind_is : map f behind ≡ zs

no_cons : {A : Type 0} (x : A) (xs : List A) → [] ≡ x ∷ xs → ⊥
no_cons x xs e = cc

pub split_map : {A B : Type 0} (f : A → B) (xs : List A) (ys zs : List B) → map f xs ≡ ys ++ zs → Split f xs ys zs
split_map f xs [] zs e = record { front = []; behind = xs; is = refl; front_is = refl; behind_is = e }
split_map f [] (y ∷ ys) zs e = absurd (no_cons y (ys ++ zs) e)
split_map f (x ∷ xs) (y ∷ ys) zs e =
    let a : f x ≡ y = cc in
    let b : map f xs ≡ ys ++ zs = cc in
    let s = split_map f xs ys zs b in
    record { front = x ∷ s.front; behind = s.behind; is = ap (λ l. x ∷ l) s.is; front_is = ap₂ (λ u l. u ∷ l) a s.front_is; behind_is = s.behind_is }

pub accepted_in_order : (limits : Limits) (s : Story) → IsGood (as_subscriber limits s) → AcceptedInOrder limits s
accepted_in_order limits s g =
    let x = good_exact (as_subscriber limits s) g in
    let es = entries_of limits s.past s.keeper.client in
    let cut = split_map item_of (qos2_entries es) x.prefix x.others (items_are es ∙ x.is) in
    record {
      prefix = cut.front;
      others = cut.behind;
      is = cut.is;
      accepted = x.accepted ∙ ap (map value_of) (sym cut.front_is) ∙ values_are cut.front;
      rest = nones_over cut.behind (subst (Each (λ item. is_pubrec_received item ≡ false)) (sym cut.behind_is) x.rest);
    }

-- ---- publications

own_by : (b : Bool) (k : ℕ) (item : SenderItem ℕ) (items : List (SenderItem ℕ)) (own : List ℕ) → value_of item ≡ k → map value_of items ≡ own
    → map value_of (if b then item ∷ items else items) ≡ (if b then k ∷ own else own)
own_by true k item items own e f = ap₂ (λ x l. x ∷ l) e f
own_by false k item items own e f = f

numbers_are : (own : List Own) → map value_of (items_of_own own) ≡ own_qos2_numbers own
numbers_are [] = refl
numbers_are (Own.Queued k p id ∷ own) = own_by (is_qos2 p.qos) k (SenderItem.Queued k) (items_of_own own) (own_qos2_numbers own) refl (numbers_are own)
numbers_are (Own.Sent k p id ∷ own) = own_by (is_qos2 p.qos) k (SenderItem.Sent k id) (items_of_own own) (own_qos2_numbers own) refl (numbers_are own)
numbers_are (Own.Released k p id ∷ own) = own_by (is_qos2 p.qos) k (SenderItem.Released k id) (items_of_own own) (own_qos2_numbers own) refl (numbers_are own)
numbers_are (Own.Done k p ∷ own) = own_by (is_qos2 p.qos) k (SenderItem.Done k) (items_of_own own) (own_qos2_numbers own) refl (numbers_are own)

pub numbers_in_order : (limits : Limits) (s : Story) → IsGood (as_publisher limits s) → IsPrefixOf (new_numbers s.connections s.past) (own_qos2_numbers s.keeper.own)
numbers_in_order limits s g =
    let x = good_exact (as_publisher limits s) g in
    record {
      rest = map value_of x.others;
      is = sym (numbers_are s.keeper.own) ∙ ap (map value_of) x.is ∙ map-append value_of x.prefix x.others ∙ ap (λ l. l ++ map value_of x.others) (sym x.accepted);
    }
