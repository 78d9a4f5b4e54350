-- The rows that a walk found are those that the content grants.
use Rattle.std.proofs.Common.{◌≡◌, ℕ, ◌≤◌, List, [], ◌∷◌, ◌++◌, Bool, true, false, not, ◌&&◌, ◌||◌, ◌==◌, cond, Option, Some, None, IsTrue, refl, sym, ◌∙◌, ap, subst, arith, inl, inr, All, Contains, codes, is_none}
use Rattle.std.specs.Prelude.{option_and_then}
use Rattle.std.specs.BTreeMap.{BTreeMap, get, is_at, IsOrdered}
use Rattle.std.specs.Map.{lookup, keys_of}
use Rattle.std.specs.List.{onto_first}
use Rattle.std.specs.List.Sorted.{IsStrictlySortedBy}
use Rattle.std.specs.Cmp.Lexicographic.{slice_cmp, bytes_decides}
use Rattle.std.specs.Ordering.{nat_cmp, is_eq}
use Rattle.std.proofs.lemmas.Bool.{true≢false, and_parts, eq-eqb, eqb-true}
use Rattle.std.proofs.lemmas.Map.Keys.{sorted_tail}
use Rattle.std.proofs.lemmas.Map.Text.{is_eq-slice_cmp}
use Rattle.std.proofs.lemmas.List.Splits.{slice_split-cons_no}
use Rattle.std.proofs.lemmas.List.Elements.{All-nil, All-cons, All-weaker, Contains-append_right}
use Rattle.std.specs.Str.{is_utf8}
use Rattle.topics.specs.Text.{Levels, levels, has_no_wildcard, is_last, is_topic, topic_fault, contains_byte, has_length, is_shallow}
use Rattle.topics.specs.declared.malformed.MalformedKind.TheVariants as kinds
use Rattle.topics.specs.Matching.{Matches, is_all, is_hidden, matches_rest, starts_with, starts_with_wildcard}
use Rattle.topics.proofs.MatchingIsTested.{tested}
use Rattle.topics.proofs.OnePass.{bare, bare_levels}
use Rattle.topics.proofs.LevelByLevel.{is_last_levels}
use Rattle.packet_base.specs.declared.qos.QoS.{QoS}
use Rattle.packet_base.specs.QoS.{qos_number}
use Rattle.subs_base.specs.Content.{Content}
use Rattle.subs_base.specs.Granted.{Row, clients_of_rows, IsGreatest, IsGranted, IsWanted}
use Rattle.subs_base.proofs.RowsAreGranted.{later, first}
use Rattle.subs.specs.Shape.{Shape, asked_below, shape_content}
use Rattle.subs.specs.Walk.{GivesSome, found_at, found_below, found_named, found_from, found_for}
use Rattle.subs.proofs.WalkFinds.{AreClean, levels_clean, text_of, found_origin, named_origin, found_reaches, below_reached, matching}

-- ---- a text's first byte, and that of its first level

abbrev first_byte : Levels → Option ℕ
first_byte [] = None
first_byte ([] ∷ rest) = None
first_byte ((byte ∷ level) ∷ rest) = Some byte

onto_is : (x : ℕ) (parts : Levels) → first_byte (onto_first x parts) ≡ Some x
onto_is x [] = refl
onto_is x (part ∷ parts) = refl

begins : (byte : ℕ) (text : List ℕ) → first_byte (levels text) ≡ Some byte → starts_with byte text ≡ true
begins byte [] h = absurd cc
begins byte (x ∷ xs) h =
    elim (x == 47) as (λ v. first_byte (cond v ([] ∷ levels xs) (onto_first x (levels xs))) ≡ Some byte → (x == byte) ≡ true) [
      | true ↦ λ e. absurd cc
      | false ↦ λ e. let same : Some x ≡ Some byte = sym (onto_is x (levels xs)) ∙ e in let is : x ≡ byte = cc in eq-eqb x byte is
    ] h

plain_first : (byte : ℕ) (text after : List ℕ) → starts_with byte text ≡ true → starts_with byte (text ++ after) ≡ true
plain_first byte [] after h = absurd cc
plain_first byte (x ∷ xs) after h = h

not_both : (a b : ℕ) (text : List ℕ) → (a ≡ b → ⊥) → starts_with a text ≡ true → starts_with b text ≡ false
not_both a b [] differ h = refl
not_both a b (x ∷ xs) differ h =
    elim (x == b) as (λ v. (x == b) ≡ v → v ≡ false) [
      | true ↦ λ e. absurd (differ (sym (eqb-true x a h) ∙ eqb-true x b e))
      | false ↦ λ e. refl
    ] refl

is_36_then_no_wildcard : (text : List ℕ) → starts_with 36 text ≡ true → starts_with_wildcard text ≡ false
is_36_then_no_wildcard text h = rw (not_both 36 35 text (λ e. absurd (omega arith)) h, not_both 36 43 text (λ e. absurd (omega arith)) h) refl

shown : (wild dollar : Bool) → not (wild && dollar) ≡ true → dollar ≡ true → wild ≡ false
shown true true h e = absurd cc
shown true false h e = absurd cc
shown false dollar h e = refl

never_hidden : (wild dollar : Bool) → dollar ≡ false → not (wild && dollar) ≡ true
never_hidden true dollar e = ap not e
never_hidden false dollar e = refl

-- the first level of a topic that begins with `$` does so
dollar_level : (topic level : List ℕ) (rest : Levels) → levels topic ≡ level ∷ rest → starts_with 36 topic ≡ true → starts_with 36 level ≡ true
dollar_level [] level rest is h = absurd cc
dollar_level (x ∷ xs) level rest is h =
    let x_is : x ≡ 36 = eqb-true x 36 h in
    let bound : first_byte (level ∷ rest) ≡ Some 36 =
    ap first_byte (sym is) ∙ ap first_byte (slice_split-cons_no (λ byte. byte == 47) x xs (ap (λ n. n == 47) x_is)) ∙ onto_is x (levels xs) ∙ ap (λ n. Some n) x_is in
    level_begins level rest bound
  where
    level_begins : (level : List ℕ) (rest : Levels) → first_byte (level ∷ rest) ≡ Some 36 → starts_with 36 level ≡ true
    level_begins [] rest h = absurd cc
    level_begins (y ∷ ys) rest h = let is : y ≡ 36 = cc in eq-eqb y 36 is

-- ---- what was found for a topic, and the filters

module _ (s : Shape) where
  -- what is asked s for below a node
  abbrev below_content : ℕ → Content
  below_content at client filter = asked_below s at (levels filter) client

  abbrev Asks : ℕ → List ℕ → List ℕ → QoS → Type 0
  Asks root topic client qos = (filter : List ℕ) × (below_content root client filter ≡ Some qos) × Matches filter topic

  asks_plain : (root : ℕ) (topic client : List ℕ) (qos : QoS) (ls : Levels) → starts_with 36 topic ≡ false → asked_below s root ls client ≡ Some qos → matches_rest ls (levels topic) ≡ true → AreClean ls → Asks root topic client qos
  asks_plain root topic client qos [] dollar found match clean = absurd (none (levels topic) (is_last_levels topic) match)
    where
      none : (ts : Levels) → is_last ts ≡ false → matches_rest [] ts ≡ true → ⊥
      none [] e m = true≢false e
      none (t ∷ ts) e m = true≢false (sym m)
  asks_plain root topic client qos (l ∷ ls) dollar found match clean =
      let text = text_of l ls clean in (
        l ++ text.0,
        ap (λ f. asked_below s root f client) text.1 ∙ found,
        (tested (l ++ text.0) topic).0
            (rw (never_hidden (starts_with_wildcard (l ++ text.0)) (starts_with 36 topic) dollar) (ap (λ f. matches_rest f (levels topic)) text.1 ∙ match)),
      )

  asks_dollar : (root : ℕ) (topic client : List ℕ) (qos : QoS) (l : List ℕ) (ls : Levels) → starts_with 36 l ≡ true → asked_below s root (l ∷ ls) client ≡ Some qos → matches_rest (l ∷ ls) (levels topic) ≡ true → AreClean (l ∷ ls) → Asks root topic client qos
  asks_dollar root topic client qos l ls dollar found match clean =
      let text = text_of l ls clean in (
        l ++ text.0,
        ap (λ f. asked_below s root f client) text.1 ∙ found,
        (tested (l ++ text.0) topic).0
            (rw (is_36_then_no_wildcard (l ++ text.0) (plain_first 36 l text.0 dollar)) (ap (λ f. matches_rest f (levels topic)) text.1 ∙ match)),
      )

  pub for_asks : (root : ℕ) (topic client : List ℕ) (qos : QoS) → has_no_wildcard topic ≡ true → found_from s root topic client ≡ Some qos → Asks root topic client qos
  for_asks root topic client qos plain found =
      elim (starts_with 36 topic) as (λ v. starts_with 36 topic ≡ v → cond v (found_named s root (levels topic) client) (found_at s root (levels topic) client) ≡ Some qos → Asks root topic client qos) [
        | true ↦ λ e h. named (levels topic) refl e h
        | false ↦ λ e h.
            let r = found_origin s root (levels topic) client qos (bare_levels topic plain) (levels_clean topic) h in
            asks_plain root topic client qos r.0 e r.1 r.2 r.3
      ] refl found
    where
      named : (ts : Levels) → levels topic ≡ ts → starts_with 36 topic ≡ true → found_named s root ts client ≡ Some qos → Asks root topic client qos
      named [] is e h = absurd cc
      named (t ∷ ts) is e h =
          let bares : bare (t ∷ ts) ≡ true = ap bare (sym is) ∙ bare_levels topic plain in
          let both = and_parts (has_no_wildcard t) (bare ts) bares in
          let clean = subst AreClean is (levels_clean topic) in
          let r = named_origin s root t ts client qos both.0 clean.0 (λ below g. found_origin s below ts client qos both.1 clean.1 g) h in
          asks_dollar root topic client qos t r.0 (dollar_level topic t ts is e) r.1 (ap (matches_rest (t ∷ r.0)) is ∙ r.2) r.3

  pub for_reaches : (root : ℕ) (topic client filter : List ℕ) (qos : QoS) → below_content root client filter ≡ Some qos → Matches filter topic → (found : QoS) × (found_from s root topic client ≡ Some found) × (qos_number qos ≤ qos_number found)
  for_reaches root topic client filter qos asks matches =
      let tests = and_parts (not (is_hidden filter topic)) (matches_rest (levels filter) (levels topic)) ((tested filter topic).1 matches) in
      elim (starts_with 36 topic) as (λ v. starts_with 36 topic ≡ v → (found : QoS) × (cond v (found_named s root (levels topic) client) (found_at s root (levels topic) client) ≡ Some found) × (qos_number qos ≤ qos_number found)) [
        | true ↦ λ e. named (levels filter) (levels topic) refl (shown (starts_with_wildcard filter) (starts_with 36 topic) tests.0 e) asks tests.1 (is_last_levels topic)
        | false ↦ λ e. found_reaches s root (levels filter) (levels topic) client qos asks tests.1
      ] refl
    where
      wild : (byte : ℕ) (ls : Levels) → levels filter ≡ ls → first_byte ls ≡ Some byte → starts_with byte filter ≡ true
      wild byte ls is h = begins byte filter (ap first_byte is ∙ h)

      either : (a b : Bool) → (a || b) ≡ false → (a ≡ false) × (b ≡ false)
      either true b h = absurd cc
      either false b h = (refl, h)

      hash_first : (l : List ℕ) (ls : Levels) → l ≡ codes "#" → first_byte (l ∷ ls) ≡ Some 35
      hash_first l ls e = ap (λ (x : List ℕ). first_byte (x ∷ ls)) e

      plus_first : (l : List ℕ) (ls : Levels) → l ≡ codes "+" → first_byte (l ∷ ls) ≡ Some 43
      plus_first l ls e = ap (λ (x : List ℕ). first_byte (x ∷ ls)) e

      named : (ls ts : Levels) → levels filter ≡ ls → starts_with_wildcard filter ≡ false → asked_below s root ls client ≡ Some qos → matches_rest ls ts ≡ true → is_last ts ≡ false
          → (found : QoS) × (found_named s root ts client ≡ Some found) × (qos_number qos ≤ qos_number found)
      named ls [] is none h match last = absurd (true≢false last)
      named [] (t ∷ ts) is none h match last = absurd cc
      named (l ∷ ls) (t ∷ ts) is none h match last =
          let no = either (starts_with 35 filter) (starts_with 43 filter) none in
          elim (is_all l ls) as (λ v. is_all l ls ≡ v → (found : QoS) × (found_named s root (t ∷ ts) client ≡ Some found) × (qos_number qos ≤ qos_number found)) [
            | true ↦ λ e. absurd (true≢false (sym (wild 35 (l ∷ ls) is (hash_first l ls ((bytes_decides l (codes "#")).0 (and_parts _ _ e).0))) ∙ no.0))
            | false ↦ λ e.
                let parts = matching l ls t ts e match in
                let kept : option_and_then (λ b. asked_below s b ls client) (s.child root l) ≡ Some qos = sym (ap (λ b. cond b (s.asked root true client) (option_and_then (λ b. asked_below s b ls client) (s.child root l))) e) ∙ h in
                elim parts.0 as (λ _. (found : QoS) × (found_named s root (t ∷ ts) client ≡ Some found) × (qos_number qos ≤ qos_number found)) [
                  | inl plus ↦ absurd (true≢false (sym (wild 43 (l ∷ ls) is (plus_first l ls plus)) ∙ no.1))
                  | inr same ↦
                      let r = below_reached s root l ls ts client qos (λ m g. found_reaches s m ls ts client qos g parts.1) kept in
                      (r.0, ap (λ x. found_below s root x ts client) (sym same) ∙ r.1, r.2)
                ]
          ] refl

-- ---- the rows

-- each entry of a sorted list is at its key
pub stands : (es : List Row) → IsStrictlySortedBy (slice_cmp nat_cmp) (keys_of es) → All (λ (e : Row). lookup (is_at (slice_cmp nat_cmp e.0)) es ≡ Some e.1) es
stands [] sorted = All-nil (λ (e : Row). lookup (is_at (slice_cmp nat_cmp e.0)) [] ≡ Some e.1)
stands (e ∷ es) sorted =
    All-cons (λ (r : Row). lookup (is_at (slice_cmp nat_cmp r.0)) (e ∷ es) ≡ Some r.1) e es (first e es)
    (All-weaker (λ (r : Row). lookup (is_at (slice_cmp nat_cmp r.0)) es ≡ Some r.1) (λ (r : Row). lookup (is_at (slice_cmp nat_cmp r.0)) (e ∷ es) ≡ Some r.1)
    (λ r h. later r.0 e es r.1 sorted h) es
    (stands es (sorted_tail (slice_cmp nat_cmp) e.0 (keys_of es) sorted)))

pub has_row : (es : List Row) (client : List ℕ) (qos : QoS) → lookup (is_at (slice_cmp nat_cmp client)) es ≡ Some qos → Contains (clients_of_rows es) client
has_row [] client qos h = absurd cc
has_row (e ∷ es) client qos h =
    elim (is_eq (slice_cmp nat_cmp client e.0)) as (λ v. is_eq (slice_cmp nat_cmp client e.0) ≡ v → cond v (Some e.1) (lookup (is_at (slice_cmp nat_cmp client)) es) ≡ Some qos → Contains (clients_of_rows (e ∷ es)) client) [
      | true ↦ λ is s. (0, omega arith, sym ((bytes_decides client e.0).0 (sym (is_eq-slice_cmp client e.0) ∙ is)))
      | false ↦ λ is s. Contains-append_right (e.0 ∷ []) (clients_of_rows es) client (has_row es client qos s)
    ] refl h

same_some : (p q : QoS) → Some p ≡ Some q → p ≡ q
same_some p q e = cc

pub for_asks_any : (s : Shape) (root : Option ℕ) (topic client : List ℕ) (qos : QoS) → has_no_wildcard topic ≡ true → found_for s root topic client ≡ Some qos
    → (filter : List ℕ) × (shape_content s root client filter ≡ Some qos) × Matches filter topic
for_asks_any s None topic client qos plain found = absurd cc
for_asks_any s (Some at) topic client qos plain found = for_asks s at topic client qos plain found

pub for_reaches_any : (s : Shape) (root : Option ℕ) (topic client filter : List ℕ) (qos : QoS) → shape_content s root client filter ≡ Some qos → Matches filter topic
    → (found : QoS) × (found_for s root topic client ≡ Some found) × (qos_number qos ≤ qos_number found)
for_reaches_any s None topic client filter qos asks matches = absurd cc
for_reaches_any s (Some at) topic client filter qos asks matches = for_reaches s at topic client filter qos asks matches

pub tree_grants :
    (s : Shape) (root : Option ℕ) (topic : List ℕ) (rows : BTreeMap (List ℕ) QoS)
    → has_no_wildcard topic ≡ true
    → IsOrdered (slice_cmp nat_cmp) rows
    → ((client : List ℕ) → get (slice_cmp nat_cmp) rows client ≡ found_for s root topic client)
    → IsGranted (shape_content s root) topic rows.entries
tree_grants s root topic rows plain ordered found = record {
  rising = ordered;
  greatest =
      All-weaker (λ (r : Row). lookup (is_at (slice_cmp nat_cmp r.0)) rows.entries ≡ Some r.1) (λ (r : Row). IsGreatest (shape_content s root) topic r.0 r.1)
      (λ r h. record {
        asked = for_asks_any s root topic r.0 r.1 plain (sym (found r.0) ∙ h);
        greatest = λ f other asks matches.
            let reach = for_reaches_any s root topic r.0 f other asks matches in
            subst (λ (p : QoS). qos_number other ≤ qos_number p) (same_some reach.0 r.1 (sym reach.1 ∙ sym (found r.0) ∙ h)) reach.2;
      })
      rows.entries (stands rows.entries ordered);
  complete = λ client filter qos asks matches.
      let reach = for_reaches_any s root topic client filter qos asks matches in
      has_row rows.entries client reach.0 (found client ∙ reach.1);
}

-- a topic has no wildcard
pub topic_plain : (topic : List ℕ) → IsTrue (is_topic topic) → has_no_wildcard topic ≡ true
topic_plain topic is =
    let faultless = (and_parts (is_utf8 topic) (is_none (topic_fault topic)) is).1 in
    first_part (contains_byte 0 topic) (has_length topic) (has_no_wildcard topic) (is_shallow topic) faultless
  where
    first_part : (null long plain shallow : Bool)
        → is_none (cond null (Some kinds.Text) (cond (not (long && plain)) (Some kinds.Topic) (cond (not shallow) (Some kinds.TooDeep) None))) ≡ true → plain ≡ true
    first_part true long plain shallow h = absurd cc
    first_part false true true shallow h = refl
    first_part false true false shallow h = absurd cc
    first_part false false plain shallow h = absurd cc

-- whom a walk gives something has a filter that matches
pub wanted_by_walk : (s : Shape) (root : Option ℕ) (topic : List ℕ) → has_no_wildcard topic ≡ true → GivesSome (found_for s root topic) → IsWanted (shape_content s root) topic
wanted_by_walk s root topic plain h =
    let asks = for_asks_any s root topic h.0 h.1 plain h.2 in (h.0, asks.0, h.1, asks.1, asks.2)
