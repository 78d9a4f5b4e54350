-- The rows that `ListIndex` appends are those that its content grants.
use Rattle.std.proofs.Common.{◌≡◌, ℕ, ◌≤◌, List, [], ◌∷◌, ◌++◌, true, false, cond, Option, Some, None, refl, sym, ◌∙◌, ap, subst, arith, ◌⊎◌, inl, inr, All, Contains, nat_lt, length, take, append_assoc}
use Rattle.std.specs.Prelude.{option_and_then}
use Rattle.std.specs.BTreeMap.{BTreeMap, is_at}
use Rattle.std.specs.Map.{keys_of}
use Rattle.std.specs.List.{AllByRecursion}
use Rattle.std.specs.List.Sorted.{IsStrictlySortedBy}
use Rattle.std.specs.Cmp.{eq_by_cmp_equiv}
use Rattle.std.specs.Cmp.Lexicographic.{slice_cmp, nat_list_cmp_total, texts_ties, bytes_decides}
use Rattle.std.specs.Ordering.{nat_cmp, is_eq}
use Rattle.std.specs.declared.cmp.Ordering.TheVariants.{Less}
use Rattle.std.proofs.lemmas.Bool.Decides.{nat_tests}
use Rattle.std.proofs.lemmas.Map.{lookup-none}
use Rattle.std.proofs.lemmas.Map.Entries.{none_past_head}
use Rattle.std.proofs.lemmas.Map.Keys.{sorted_tail, IsDistinct-from_sorted}
use Rattle.std.proofs.lemmas.List.{length-take, take-append-le}
use Rattle.std.proofs.lemmas.List.Elements.{All-nil, All-cons, All-weaker, Contains-append_right}
use Rattle.topics.specs.Matching.{Matches, is_match}
use Rattle.topics.proofs.MatchingIsTested.{tested}
use Rattle.packet_base.specs.declared.qos.QoS.{QoS}
use Rattle.packet_base.specs.QoS.{greater_qos, qos_number}
use Rattle.subs_base.specs.Granted.{Row, clients_of_rows, IsGreatest, IsGranted, IsWanted, AppendsGranted, row_of}
use Rattle.subs_base.specs.ListIndex.{Filters, Clients, at, content_of}
use Rattle.subs_base.specs.Inside.{greatest_from, rows_of, AreOrdered, listed}

-- ---- the greater_qos of two

greater_left : (q : QoS) (best : Option QoS) → qos_number q ≤ qos_number (greater_qos q best)
greater_left q None = omega arith
greater_left q (Some b) =
    elim (nat_lt (qos_number q) (qos_number b)) as (λ v. nat_lt (qos_number q) (qos_number b) ≡ v → qos_number q ≤ qos_number (cond v b q)) [
      | true ↦ λ e. grind (arith, nat_tests)
      | false ↦ λ e. omega arith
    ] refl

greater_right : (q b : QoS) → qos_number b ≤ qos_number (greater_qos q (Some b))
greater_right q b =
    elim (nat_lt (qos_number q) (qos_number b)) as (λ v. nat_lt (qos_number q) (qos_number b) ≡ v → qos_number b ≤ qos_number (cond v b q)) [
      | true ↦ λ e. omega arith
      | false ↦ λ e. grind (arith, nat_tests)
    ] refl

greater_cases : (q : QoS) (best : Option QoS) → (greater_qos q best ≡ q) ⊎ (best ≡ Some (greater_qos q best))
greater_cases q None = inl refl
greater_cases q (Some b) =
    elim (nat_lt (qos_number q) (qos_number b)) as (λ v. (cond v b q ≡ q) ⊎ (Some b ≡ Some (cond v b q))) [ true ↦ inr refl | false ↦ inl refl ]

-- ---- a look-up past the first entry

pub later : {X : Type 0} (c : List ℕ) (e : List ℕ × X) (es : List (List ℕ × X)) (x : X) → IsStrictlySortedBy (slice_cmp nat_cmp) (keys_of (e ∷ es)) → at c es ≡ Some x → at c (e ∷ es) ≡ Some x
later c e es x sorted found =
    elim (is_at (slice_cmp nat_cmp c) e.0) as (λ v. is_at (slice_cmp nat_cmp c) e.0 ≡ v → cond v (Some e.1) (at c es) ≡ Some x) [
      | true ↦ λ t.
          let gone : at c es ≡ None =
          lookup-none (is_at (slice_cmp nat_cmp c)) es
          (none_past_head (eq_by_cmp_equiv nat_list_cmp_total) c e es (IsDistinct-from_sorted (slice_cmp nat_cmp) (keys_of (e ∷ es)) sorted) t) in
          absurd cc
      | false ↦ λ t. found
    ] refl

same : (x y : List ℕ) → is_eq (slice_cmp nat_cmp x y) ≡ true → x ≡ y
same x y e = (bytes_decides x y).0 (texts_ties x y ∙ e)

pub first : {X : Type 0} (e : List ℕ × X) (es : List (List ℕ × X)) → at e.0 (e ∷ es) ≡ Some e.1
first e es = ap (λ b. cond b (Some e.1) (at e.0 es)) (sym (texts_ties e.0 e.0) ∙ (bytes_decides e.0 e.0).1 refl)

-- ---- the greatest QoS of one client's filters

at_least : (topic : List ℕ) (b : QoS) (fs : Filters) → (p : QoS) × (greatest_from topic (Some b) fs ≡ Some p) × (qos_number b ≤ qos_number p)
at_least topic b [] = (b, refl, omega arith)
at_least topic b (e ∷ es) =
    elim (is_match e.0 topic) as (λ v. (p : QoS) × (cond v (greatest_from topic (Some (greater_qos e.1 (Some b))) es) (greatest_from topic (Some b) es) ≡ Some p) × (qos_number b ≤ qos_number p)) [
      | true ↦
          let h = at_least topic (greater_qos e.1 (Some b)) es in
          let l : qos_number b ≤ qos_number (greater_qos e.1 (Some b)) = greater_right e.1 b in
          let m = h.2 in
          (h.0, h.1, omega arith)
      | false ↦ at_least topic b es
    ]

-- a matching filter's QoS is at most the greatest
reaches : (topic : List ℕ) (best : Option QoS) (fs : Filters) (f : List ℕ) (q : QoS) → at f fs ≡ Some q → is_match f topic ≡ true → (p : QoS) × (greatest_from topic best fs ≡ Some p) × (qos_number q ≤ qos_number p)
reaches topic best [] f q found is = absurd cc
reaches topic best (e ∷ es) f q found is =
    elim (is_at (slice_cmp nat_cmp f) e.0) as (λ v. is_at (slice_cmp nat_cmp f) e.0 ≡ v → cond v (Some e.1) (at f es) ≡ Some q → (p : QoS) × (greatest_from topic best (e ∷ es) ≡ Some p) × (qos_number q ≤ qos_number p)) [
      | true ↦ λ t s.
          let here : is_match e.0 topic ≡ true = ap (λ x. is_match x topic) (sym (same f e.0 t)) ∙ is in
          let h = at_least topic (greater_qos e.1 best) es in
          let l : qos_number e.1 ≤ qos_number (greater_qos e.1 best) = greater_left e.1 best in
          let n : e.1 ≡ q = cc in
          let m : qos_number e.1 ≡ qos_number q = ap qos_number n in
          let k = h.2 in
          (h.0, ap (λ v. cond v (greatest_from topic (Some (greater_qos e.1 best)) es) (greatest_from topic best es)) here ∙ h.1, omega arith)
      | false ↦ λ t s.
          elim (is_match e.0 topic) as (λ v. (p : QoS) × (cond v (greatest_from topic (Some (greater_qos e.1 best)) es) (greatest_from topic best es) ≡ Some p) × (qos_number q ≤ qos_number p)) [
            | true ↦ reaches topic (Some (greater_qos e.1 best)) es f q s is
            | false ↦ reaches topic best es f q s is
          ]
    ] refl found

-- the greatest is that of a matching filter
comes : (topic : List ℕ) (best : Option QoS) (fs : Filters) (p : QoS) → IsStrictlySortedBy (slice_cmp nat_cmp) (keys_of fs) → greatest_from topic best fs ≡ Some p → (best ≡ Some p) ⊎ ((f : List ℕ) × (at f fs ≡ Some p) × (is_match f topic ≡ true))
comes topic best [] p sorted is = inl is
comes topic best (e ∷ es) p sorted is =
    let rest : IsStrictlySortedBy (slice_cmp nat_cmp) (keys_of es) = sorted_tail (slice_cmp nat_cmp) e.0 (keys_of es) sorted in
    let Goal : Type 0 = (best ≡ Some p) ⊎ ((f : List ℕ) × (at f (e ∷ es) ≡ Some p) × (is_match f topic ≡ true)) in
    let further : ((f : List ℕ) × (at f es ≡ Some p) × (is_match f topic ≡ true)) → Goal = λ h. inr (h.0, later h.0 e es p sorted h.1, h.2) in
    elim (is_match e.0 topic) as (λ v. is_match e.0 topic ≡ v → cond v (greatest_from topic (Some (greater_qos e.1 best)) es) (greatest_from topic best es) ≡ Some p → Goal) [
      | true ↦ λ t s.
          elim (comes topic (Some (greater_qos e.1 best)) es p rest s) as (λ _. Goal) [
            | inl h ↦
                elim (greater_cases e.1 best) as (λ _. Goal) [
                  | inl here ↦ inr (e.0, first e es ∙ ap (λ q. Some q) (sym here) ∙ h, t)
                  | inr there ↦ inl (there ∙ h)
                ]
            | inr h ↦ further h
          ]
      | false ↦ λ t s.
          elim (comes topic best es p rest s) as (λ _. Goal) [ inl h ↦ inl h | inr h ↦ further h ]
    ] refl is

-- ---- the rows

-- what a row comes from
abbrev Origin : List ℕ → Clients → Row → Type 0
Origin topic es row =
    (fs : Filters) × (at row.0 es ≡ Some fs) × (greatest_from topic None fs ≡ Some row.1) × IsStrictlySortedBy (slice_cmp nat_cmp) (keys_of fs)

origins : (topic : List ℕ) (es : Clients) → IsStrictlySortedBy (slice_cmp nat_cmp) (keys_of es) → AreOrdered es → All (Origin topic es) (rows_of topic es)
origins topic [] sorted ordered = All-nil (Origin topic [])
origins topic (e ∷ es) sorted ordered =
    let rest : All (Origin topic (e ∷ es)) (rows_of topic es) =
    All-weaker (Origin topic es) (Origin topic (e ∷ es))
    (λ row o. (o.0, later row.0 e es o.0 sorted o.1, o.2, o.3))
    (rows_of topic es)
    (origins topic es (sorted_tail (slice_cmp nat_cmp) e.0 (keys_of es) sorted) ordered.1) in
    elim (greatest_from topic None e.1) as (λ v. greatest_from topic None e.1 ≡ v → All (Origin topic (e ∷ es)) (row_of e.0 v ++ rows_of topic es)) [
      | None ↦ λ t. rest
      | Some q ↦ λ t. All-cons (Origin topic (e ∷ es)) (e.0, q) (rows_of topic es) (e.1, first e es, t, ordered.0) rest
    ] refl

below_rows : (topic : List ℕ) (k : List ℕ) (es : Clients) → AllByRecursion (λ y. slice_cmp nat_cmp k y ≡ Less) (keys_of es) → AllByRecursion (λ y. slice_cmp nat_cmp k y ≡ Less) (clients_of_rows (rows_of topic es))
below_rows topic k [] h = h
below_rows topic k (e ∷ es) h =
    elim (greatest_from topic None e.1) as (λ v. AllByRecursion (λ y. slice_cmp nat_cmp k y ≡ Less) (clients_of_rows (row_of e.0 v ++ rows_of topic es))) [
      | None ↦ below_rows topic k es h.1
      | Some q ↦ (h.0, below_rows topic k es h.1)
    ]

rising : (topic : List ℕ) (es : Clients) → IsStrictlySortedBy (slice_cmp nat_cmp) (keys_of es) → IsStrictlySortedBy (slice_cmp nat_cmp) (clients_of_rows (rows_of topic es))
unfolding IsStrictlySortedBy
rising topic [] h = h
rising topic (e ∷ es) h =
    elim (greatest_from topic None e.1) as (λ v. IsStrictlySortedBy (slice_cmp nat_cmp) (clients_of_rows (row_of e.0 v ++ rows_of topic es))) [
      | None ↦ rising topic es h.1
      | Some q ↦ (below_rows topic e.0 es h.0, rising topic es h.1)
    ]

head_is : (x : List ℕ) (xs : List (List ℕ)) → Contains (x ∷ xs) x
head_is x xs = (0, omega arith, refl)

complete : (topic : List ℕ) (es : Clients) (c f : List ℕ) (q : QoS) → content_of es c f ≡ Some q → is_match f topic ≡ true → Contains (clients_of_rows (rows_of topic es)) c
complete topic [] c f q found is = absurd cc
complete topic (e ∷ es) c f q found is =
    elim (is_at (slice_cmp nat_cmp c) e.0) as (λ v. is_at (slice_cmp nat_cmp c) e.0 ≡ v → option_and_then (at f) (cond v (Some e.1) (at c es)) ≡ Some q → Contains (clients_of_rows (rows_of topic (e ∷ es))) c) [
      | true ↦ λ t s.
          let r = reaches topic None e.1 f q s is in
          let here : rows_of topic (e ∷ es) ≡ (e.0, r.0) ∷ rows_of topic es = ap (λ v. row_of e.0 v ++ rows_of topic es) r.1 in
          subst (λ (rows : List Row). Contains (clients_of_rows rows) c) (sym here)
          (subst (λ (x : List ℕ). Contains (e.0 ∷ clients_of_rows (rows_of topic es)) x) (sym (same c e.0 t)) (head_is e.0 (clients_of_rows (rows_of topic es))))
      | false ↦ λ t s.
          elim (greatest_from topic None e.1) as (λ v. Contains (clients_of_rows (row_of e.0 v ++ rows_of topic es)) c) [
            | None ↦ complete topic es c f q s is
            | Some p ↦ Contains-append_right (e.0 ∷ []) (clients_of_rows (rows_of topic es)) c (complete topic es c f q s is)
          ]
    ] refl found

-- a row that comes from a client's filters has the greatest QoS
is_greatest : (topic : List ℕ) (es : Clients) (row : Row) → Origin topic es row → IsGreatest (content_of es) topic row.0 row.1
is_greatest topic es row o = record {
  asked =
      elim (comes topic None o.0 row.1 o.3 o.2) as (λ _. (f : List ℕ) × (content_of es row.0 f ≡ Some row.1) × Matches f topic) [
        | inl h ↦ absurd cc
        | inr h ↦ (h.0, ap (option_and_then (at h.0)) o.1 ∙ h.1, (tested h.0 topic).0 h.2)
      ];
  greatest = λ f other found is.
      let r = reaches topic None o.0 f other (sym (ap (option_and_then (at f)) o.1) ∙ found) ((tested f topic).1 is) in
      let e : Some r.0 ≡ Some row.1 = sym r.1 ∙ o.2 in
      let n : r.0 ≡ row.1 = cc in
      subst (λ (p : QoS). qos_number other ≤ qos_number p) n r.2;
}

-- a client's filter that matches
pub wanted_by : (topic : List ℕ) (all : Clients) (c : List ℕ) (fs : Filters) (p : QoS) → at c all ≡ Some fs →
    IsStrictlySortedBy (slice_cmp nat_cmp) (keys_of fs) → greatest_from topic None fs ≡ Some p → IsWanted (content_of all) topic
wanted_by topic all c fs p found sorted is =
    elim (comes topic None fs p sorted is) as (λ _. IsWanted (content_of all) topic) [
      | inl h ↦ absurd cc
      | inr h ↦ (c, h.0, p, ap (option_and_then (at h.0)) found ∙ h.1, (tested h.0 topic).0 h.2)
    ]

pub rows_granted : (topic : List ℕ) (es : Clients) → IsStrictlySortedBy (slice_cmp nat_cmp) (keys_of es) → AreOrdered es → IsGranted (content_of es) topic (rows_of topic es)
rows_granted topic es sorted ordered = record {
  rising = rising topic es sorted;
  greatest = All-weaker (Origin topic es) (λ row. IsGreatest (content_of es) topic row.0 row.1) (is_greatest topic es) (rows_of topic es) (origins topic es sorted ordered);
  complete = λ c f q found is. complete topic es c f q found ((tested f topic).1 is);
}

keys_listed : (es : List (List ℕ × BTreeMap (List ℕ) QoS)) → keys_of (listed es) ≡ keys_of es
keys_listed [] = refl
keys_listed (e ∷ es) = ap (λ ks. e.0 ∷ ks) (keys_listed es)

pub appends_granted :
    (topic : List ℕ) (es : List (List ℕ × BTreeMap (List ℕ) QoS)) (old new : List Row)
    → IsStrictlySortedBy (slice_cmp nat_cmp) (keys_of es) → AreOrdered (listed es) → new ≡ old ++ rows_of topic (listed es)
    → AppendsGranted (content_of (listed es)) topic old new
appends_granted topic es old new sorted ordered is =
    (rows_of topic (listed es), rows_granted topic (listed es) (subst (IsStrictlySortedBy (slice_cmp nat_cmp)) (sym (keys_listed es)) sorted) ordered, is)

-- ---- what a walk over the clients has so far

abbrev Entries : Type 0
Entries = List (List ℕ × BTreeMap (List ℕ) QoS)

-- what the clients that are left have is in all
pub rest_is_there :
    (es rest : Entries) (client : List ℕ) (filters : BTreeMap (List ℕ) QoS) (all : Clients)
    → es ≡ (client, filters) ∷ rest → IsStrictlySortedBy (slice_cmp nat_cmp) (keys_of es)
    → ((c : List ℕ) (fs : Filters) → at c (listed es) ≡ Some fs → at c all ≡ Some fs)
    → (c : List ℕ) (fs : Filters) → at c (listed rest) ≡ Some fs → at c all ≡ Some fs
rest_is_there es rest client filters all cut sorted there c fs found =
    let in_order : IsStrictlySortedBy (slice_cmp nat_cmp) (keys_of ((client, filters.entries) ∷ listed rest)) =
    subst (IsStrictlySortedBy (slice_cmp nat_cmp)) (ap (λ (xs : Entries). keys_of xs) cut ∙ sym (keys_listed ((client, filters) ∷ rest))) sorted in
    there c fs (ap (λ (xs : Entries). at c (listed xs)) cut ∙ later c (client, filters.entries) (listed rest) fs in_order found)

-- the same for a matching filter of the client whose turn it is
pub head_is_wanted :
    (topic : List ℕ) (es rest : Entries) (client : List ℕ) (filters : BTreeMap (List ℕ) QoS) (all : Clients) (p : QoS)
    → es ≡ (client, filters) ∷ rest
    → ((c : List ℕ) (fs : Filters) → at c (listed es) ≡ Some fs → at c all ≡ Some fs)
    → IsStrictlySortedBy (slice_cmp nat_cmp) (keys_of filters.entries) → greatest_from topic None filters.entries ≡ Some p
    → IsWanted (content_of all) topic
head_is_wanted topic es rest client filters all p cut there sorted is =
    wanted_by topic all client filters.entries p
    (there client filters.entries (ap (λ (xs : Entries). at client (listed xs)) cut ∙ first (client, filters.entries) (listed rest))) sorted is

-- and has its row after those before it
pub row_appended :
    (topic : List ℕ) (es rest : Entries) (client key : List ℕ) (filters : BTreeMap (List ℕ) QoS) (p : QoS) (rows more : List Row)
    → es ≡ (client, filters) ∷ rest → greatest_from topic None filters.entries ≡ Some p → more ≡ rows ++ (key, p) ∷ [] → key ≡ client
    → more ++ rows_of topic (listed rest) ≡ rows ++ rows_of topic (listed es)
row_appended topic es rest client key filters p rows more cut is added same =
    ap (λ (rs : List Row). rs ++ rows_of topic (listed rest)) (added ∙ ap (λ (k : List ℕ). rows ++ (k, p) ∷ []) same)
    ∙ append_assoc rows ((client, p) ∷ []) (rows_of topic (listed rest))
    ∙ ap (λ (rs : List Row). rows ++ rs)
    (ap (λ (v : Option QoS). row_of client v ++ rows_of topic (listed rest)) (sym is)
    ∙ ap (λ (xs : Entries). rows_of topic (listed xs)) (sym cut))

-- what was in front is in front of more
pub still_front : {X : Type 0} (before out xs more : List X) → more ≡ out ++ xs → before ≡ take (length before) out → before ≡ take (length before) more
still_front before out xs more is e =
    let long = ap length e in let cut = length-take (length before) out in
    e ∙ sym (take-append-le (length before) out xs (omega (arith, long, cut))) ∙ ap (take (length before)) (sym is)
