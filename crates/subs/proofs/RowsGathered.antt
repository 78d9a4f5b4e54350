-- What is gathered is what the list holds, and what the nodes then hold.
use Rattle.std.proofs.Common.{◌≡◌, ℕ, List, [], ◌∷◌, ◌++◌, Bool, true, false, ◌&&◌, cond, Option, Some, None, refl, sym, ◌∙◌, ap, subst, bytes_eq}
use Rattle.std.specs.Prelude.{option_and_then, option_map, map}
use Rattle.std.specs.Option.{option_or}
use Rattle.std.specs.Map.{lookup, keys_of, update, update_all}
use Rattle.std.specs.BTreeMap.{BTreeMap, is_at, get}
use Rattle.std.specs.List.Sorted.{IsStrictlySortedBy}
use Rattle.std.specs.Cmp.{eq_by_cmp_equiv}
use Rattle.std.specs.Cmp.Lexicographic.{slice_cmp, nat_list_cmp_total, nat_list_eq_equiv, texts_ties, bytes_decides}
use Rattle.std.specs.Ordering.{nat_cmp, eq_by_cmp}
use Rattle.std.specs.List.{IsDistinct}
use Rattle.std.specs.Iterator.{DrainsIf}
use Rattle.std.proofs.lemmas.Iterator.{YieldsList, items_from_drains}
use Rattle.std.proofs.lemmas.Map.{lookup-none, update_all_push}
use Rattle.std.proofs.lemmas.Map.Entries.{none_past_head}
use Rattle.std.proofs.lemmas.Map.Keys.{sorted_tail, IsDistinct-from_sorted}
use Rattle.std.proofs.lemmas.Map.Made.{lookup-map_values, update_all_distinct, update_all_none}
use Rattle.packet_base.specs.declared.qos.QoS.{QoS}
use Rattle.topics.specs.Text.{levels}
use Rattle.subs_base.specs.Content.{Content, last_qos_in, no_subscriptions, with_row}
use Rattle.subs_base.specs.ListIndex.{Filters, Clients, at, content_of}
use Rattle.subs_base.specs.Inside.{listed, AreOrdered}
use Rattle.subs.specs.declared.group.Group.{Group}
use Rattle.subs.specs.declared.group.Group.TheVariants.{One}
use Rattle.subs.specs.Gathered.{Groups, rows_of_group, groups_as_lists, gathered, all_rows_put, filters_set, clients_set}
use Rattle.subs.specs.declared.rows.Rows.{Rows}
use Rattle.subs.specs.declared.rows.Rows.TheVariants as kept
use Rattle.subs.specs.Rows.{qos_of_client}
use Rattle.subs.specs.Inside.{Asked, with_rows}
use Rattle.subs.proofs.ContentOfTree.{at_texts, same_text}
use Rattle.subs.proofs.NodeSets.{turned}
use Rattle.subs.proofs.RowsSet.{one_at}

-- what a client has among rows, if there are any
abbrev pub of_rows : List ℕ → Option (List (List ℕ × QoS)) → Option QoS
of_rows c o = option_and_then (λ rows. last_qos_in rows c) o

-- ---- one more row

abbrev in_group : List ℕ → Option Group → Option QoS
in_group c o = option_and_then (λ group. last_qos_in (rows_of_group group) c) o

gathered_held : (es : List (List ℕ × Group)) (c f : List ℕ) → gathered (groups_as_lists es) c f ≡ in_group c (lookup (bytes_eq f) es)
gathered_held es c f = ap (of_rows c) (lookup-map_values rows_of_group (bytes_eq f) es) ∙ opened (lookup (bytes_eq f) es)
  where
    opened : (o : Option Group) → of_rows c (option_map rows_of_group o) ≡ in_group c o
    opened None = refl
    opened (Some rows) = refl

pub row_added :
    (old new : List (List ℕ × Group)) (filter : List ℕ) (row : List ℕ × QoS) (rows : Group)
    → ((f : List ℕ) → lookup (bytes_eq f) new ≡ cond (bytes_eq filter f) (Some rows) (lookup (bytes_eq f) old))
    → ((c : List ℕ) → last_qos_in (rows_of_group rows) c ≡ cond (bytes_eq row.0 c) (Some row.1) (in_group c (lookup (bytes_eq filter) old)))
    → gathered (groups_as_lists new) ≡ with_row (gathered (groups_as_lists old)) row.0 filter row.1
row_added old new filter row rows outer inner = λ i c f. go c f i
  where
    both : (b : Bool) (o : Option QoS) → cond b (Some row.1) o ≡ cond (b && true) (Some row.1) o
    both true o = refl
    both false o = refl

    neither : (b : Bool) (o : Option QoS) → o ≡ cond (b && false) (Some row.1) o
    neither true o = refl
    neither false o = refl

    by : (c f : List ℕ) (v : Bool) → bytes_eq filter f ≡ v →
        in_group c (cond v (Some rows) (lookup (bytes_eq f) old)) ≡ cond (bytes_eq row.0 c && v) (Some row.1) (in_group c (lookup (bytes_eq f) old))
    by c f true e =
        inner c
        ∙ ap (λ (x : List ℕ). cond (bytes_eq row.0 c) (Some row.1) (in_group c (lookup (bytes_eq x) old))) ((bytes_decides filter f).0 e)
        ∙ both (bytes_eq row.0 c) (in_group c (lookup (bytes_eq f) old))
    by c f false e = neither (bytes_eq row.0 c) (in_group c (lookup (bytes_eq f) old))

    go : (c f : List ℕ) → gathered (groups_as_lists new) c f ≡ cond (bytes_eq row.0 c && bytes_eq filter f) (Some row.1) (gathered (groups_as_lists old) c f)
    go c f =
        gathered_held new c f
        ∙ ap (in_group c) (outer f)
        ∙ by c f (bytes_eq filter f) refl
        ∙ ap (cond (bytes_eq row.0 c && bytes_eq filter f) (Some row.1)) (sym (gathered_held old c f))

-- the row came after those of the filter
pub row_pushed :
    (old : List (List ℕ × Group)) (filter : List ℕ) (row : List ℕ × QoS) (was is : Group)
    → Some was ≡ lookup (bytes_eq filter) old → rows_of_group is ≡ rows_of_group was ++ row ∷ []
    → (c : List ℕ) → last_qos_in (rows_of_group is) c ≡ cond (bytes_eq row.0 c) (Some row.1) (in_group c (lookup (bytes_eq filter) old))
row_pushed old filter row was is there items c =
    ap (λ rows. last_qos_in rows c) items
    ∙ sym (update_all_push bytes_eq (λ _. None) (last_qos_in (rows_of_group was)) (rows_of_group was) row c refl)
    ∙ ap (λ o. cond (bytes_eq row.0 c) (Some row.1) (in_group c o)) there

-- it is the first of the filter
pub row_first :
    (old : List (List ℕ × Group)) (filter : List ℕ) (row : List ℕ × QoS)
    → None ≡ lookup (bytes_eq filter) old
    → (c : List ℕ) → last_qos_in (rows_of_group (One row.0 row.1)) c ≡ cond (bytes_eq row.0 c) (Some row.1) (in_group c (lookup (bytes_eq filter) old))
row_first old filter row none c =
    ap (λ o. cond (bytes_eq row.0 c) (Some row.1) (in_group c o)) none

keys_same : (es : List (List ℕ × Group)) → keys_of (groups_as_lists es) ≡ keys_of es
keys_same [] = refl
keys_same (e ∷ es) = ap (λ ks. e.0 ∷ ks) (keys_same es)

-- ---- the whole list

filters_set_at : (d : List ℕ) (fs : Filters) (content : Content) (c f : List ℕ) → filters_set d fs content c f ≡ cond (bytes_eq d c) (update_all bytes_eq (content c) fs f) (content c f)
filters_set_at d [] content c f = by (bytes_eq d c)
  where
    by : (b : Bool) → content c f ≡ cond b (content c f) (content c f)
    by true = refl
    by false = refl
filters_set_at d (held ∷ more) content c f = filters_set_at d more (with_row content d held.0 held.1) c f ∙ by (bytes_eq d c) refl
  where
    by : (b : Bool) → bytes_eq d c ≡ b →
        cond b (update_all bytes_eq (with_row content d held.0 held.1 c) more f) (with_row content d held.0 held.1 c f)
        ≡ cond b (update_all bytes_eq (update bytes_eq (content c) held.0 (Some held.1)) more f) (content c f)
    by true e = ap (λ b. update_all bytes_eq (λ g. cond (b && bytes_eq held.0 g) (Some held.1) (content c g)) more f) e
    by false e = ap (λ b. cond (b && bytes_eq held.0 f) (Some held.1) (content c f)) e

held_set : (d : List ℕ) (fs : Filters) (content : Content) (c f : List ℕ) → IsStrictlySortedBy (slice_cmp nat_cmp) (keys_of fs) →
    filters_set d fs content c f ≡ cond (bytes_eq d c) (option_or (at f fs) (content c f)) (content c f)
held_set d fs content c f sorted =
    filters_set_at d fs content c f
    ∙ ap (λ o. cond (bytes_eq d c) o (content c f))
    (update_all_distinct (eq_by_cmp_equiv nat_list_cmp_total) bytes_eq texts_ties (content c) fs f (IsDistinct-from_sorted (slice_cmp nat_cmp) (keys_of fs) sorted))

all_set : (es : Clients) (content : Content) (c f : List ℕ) → IsStrictlySortedBy (slice_cmp nat_cmp) (keys_of es) → AreOrdered es →
    clients_set es content c f ≡ option_or (content_of es c f) (content c f)
all_set [] content c f sorted ordered = refl
all_set (e ∷ es) content c f sorted ordered =
    all_set es (filters_set e.0 e.1 content) c f (sorted_tail (slice_cmp nat_cmp) e.0 (keys_of es) sorted) ordered.1
    ∙ ap (option_or (content_of es c f)) (held_set e.0 e.1 content c f ordered.0)
    ∙ by (bytes_eq e.0 c) refl
  where
    by : (b : Bool) → bytes_eq e.0 c ≡ b →
        option_or (content_of es c f) (cond b (option_or (at f e.1) (content c f)) (content c f))
        ≡ option_or (option_and_then (at f) (cond (is_at (slice_cmp nat_cmp c) e.0) (Some e.1) (at c es))) (content c f)
    by true t =
        let here : is_at (slice_cmp nat_cmp c) e.0 ≡ true = sym (texts_ties c e.0) ∙ turned c e.0 ∙ t in
        let gone : at c es ≡ None =
        lookup-none (is_at (slice_cmp nat_cmp c)) es
        (none_past_head (eq_by_cmp_equiv nat_list_cmp_total) c e es (IsDistinct-from_sorted (slice_cmp nat_cmp) (keys_of (e ∷ es)) sorted) here) in
        ap (λ o. option_or (option_and_then (at f) o) (option_or (at f e.1) (content c f))) gone
        ∙ ap (λ b. option_or (option_and_then (at f) (cond b (Some e.1) (at c es))) (content c f)) (sym here)
    by false t =
        let there : is_at (slice_cmp nat_cmp c) e.0 ≡ false = sym (texts_ties c e.0) ∙ turned c e.0 ∙ t in
        ap (λ b. option_or (option_and_then (at f) (cond b (Some e.1) (at c es))) (content c f)) (sym there)

keys_listed : (es : List (List ℕ × BTreeMap (List ℕ) QoS)) → keys_of (listed es) ≡ keys_of es
keys_listed [] = refl
keys_listed (e ∷ es) = ap (λ ks. e.0 ∷ ks) (keys_listed es)

-- all that the list holds was added
pub list_set : (es : List (List ℕ × BTreeMap (List ℕ) QoS)) → IsStrictlySortedBy (slice_cmp nat_cmp) (keys_of es) → AreOrdered (listed es) →
    clients_set (listed es) no_subscriptions ≡ content_of (listed es)
list_set es sorted ordered = λ i c f. go c f i
  where
    alone : (o : Option QoS) → option_or o None ≡ o
    alone None = refl
    alone (Some q) = refl

    go : (c f : List ℕ) → clients_set (listed es) no_subscriptions c f ≡ content_of (listed es) c f
    go c f =
        all_set (listed es) no_subscriptions c f (subst (λ ks. IsStrictlySortedBy (slice_cmp nat_cmp) ks) (sym (keys_listed es)) sorted) ordered
        ∙ alone (content_of (listed es) c f)

-- ---- the nodes

-- what is made of the items that a vector gave is made of all that it held
pub made_of :
    {S A : Type 0} {steps : S → Option A → S → Type 0} {s : S} {all : List A} (Q : List A → Type 0) (xs : List A)
    → DrainsIf steps (Unit {0}) s xs → YieldsList steps (λ x. x) s all → Q xs → Q all
made_of Q xs drains yields made = subst Q (sym (as_it_is xs) ∙ items_from_drains xs drains yields) made
  where
    as_it_is : {X : Type 0} (xs : List X) → map (λ x. x) xs ≡ xs
    as_it_is [] = refl
    as_it_is (x ∷ xs) = ap (λ rest. x ∷ rest) (as_it_is xs)

-- the tests of a map's keys are the same
pub same_tests : eq_by_cmp (slice_cmp nat_cmp) ≡ bytes_eq
same_tests = λ i x y. sym (texts_ties x y) i

-- the rows of one filter were put in
pub group_put :
    (old new : Asked) (text filter : List ℕ) (list : List (List ℕ × QoS)) (rows : Rows)
    → text ≡ filter
    → qos_of_client rows ≡ last_qos_in list
    → new ≡ with_rows old (levels text) (qos_of_client rows)
    → at_texts new ≡ (λ c f. cond (bytes_eq filter f) (last_qos_in list c) (at_texts old c f))
group_put old new text filter list rows is made after = λ i c f. go c f i
  where
    go : (c f : List ℕ) → new (levels f) c ≡ cond (bytes_eq filter f) (last_qos_in list c) (old (levels f) c)
    go c f =
        ap (λ (a : Asked). a (levels f) c) after
        ∙ ap (λ b. cond b (qos_of_client rows c) (old (levels f) c)) (same_text text f ∙ ap (λ t. bytes_eq t f) is)
        ∙ ap (λ o. cond (bytes_eq filter f) o (old (levels f) c)) (λ i. made i c)

-- a map made of rows holds them, and a single row is held as it is
pub map_made :
    (list : List (List ℕ × QoS)) (clients : BTreeMap (List ℕ) QoS)
    → ((q : List ℕ) → get (slice_cmp nat_cmp) clients q ≡ update_all (eq_by_cmp (slice_cmp nat_cmp)) (λ _. None) list q)
    → qos_of_client (kept.Many clients) ≡ last_qos_in list
map_made list clients made = λ i q. (made q ∙ ap (λ e. update_all e (λ _. None) list q) same_tests) i

pub one_made : (client : List ℕ) (qos : QoS) → qos_of_client (kept.One client qos) ≡ last_qos_in ((client, qos) ∷ [])
one_made client qos = λ i q. one_at client qos q i

put_in_turn : (gs : Groups) (g : List ℕ → Option (List (List ℕ × QoS))) (c f : List ℕ) →
    all_rows_put gs (λ d h. of_rows d (g h)) c f ≡ of_rows c (update_all bytes_eq g gs f)
put_in_turn [] g c f = refl
put_in_turn (e ∷ gs) g c f =
    ap (λ content. all_rows_put gs content c f) (λ i d h. into (bytes_eq e.0 h) d h i)
    ∙ put_in_turn gs (update bytes_eq g e.0 (Some e.1)) c f
  where
    into : (b : Bool) (d h : List ℕ) → cond b (last_qos_in e.1 d) (of_rows d (g h)) ≡ of_rows d (cond b (Some e.1) (g h))
    into true d h = refl
    into false d h = refl

-- once all are put in, the nodes hold what was gathered
pub groups_put : (es : List (List ℕ × Group)) → IsDistinct bytes_eq (keys_of es) → all_rows_put (groups_as_lists es) no_subscriptions ≡ gathered (groups_as_lists es)
groups_put es distinct = λ i c f. go c f i
  where
    go : (c f : List ℕ) → all_rows_put (groups_as_lists es) no_subscriptions c f ≡ gathered (groups_as_lists es) c f
    go c f =
        put_in_turn (groups_as_lists es) (λ _. None) c f
        ∙ ap (of_rows c) (update_all_none nat_list_eq_equiv bytes_eq (λ x y. refl) (groups_as_lists es) f (subst (IsDistinct bytes_eq) (sym (keys_same es)) distinct))
