-- What a walk along a topic's levels finds is the greatest QoS of the filters that match.
use Rattle.std.proofs.Common.{◌≡◌, ℕ, ◌≤◌, List, [], ◌∷◌, ◌++◌, true, false, ◌&&◌, ◌||◌, ◌==◌, cond, Option, Some, None, refl, sym, ◌∙◌, ap, arith, ◌⊎◌, inl, inr, bytes_eq, codes, All, append-nil}
use Rattle.std.specs.Prelude.{option_and_then}
use Rattle.std.specs.List.{onto_first}
use Rattle.std.specs.Cmp.Lexicographic.{bytes_decides}
use Rattle.std.proofs.lemmas.Bool.{and_parts}
use Rattle.std.proofs.lemmas.List.Elements.{All-nil, All-cons}
use Rattle.std.proofs.lemmas.List.Splits.{slice_split_none, slice_split_at}
use Rattle.topics.specs.Text.{Levels, levels, has_no_wildcard}
use Rattle.topics.specs.Matching.{is_all, matches_rest}
use Rattle.topics.proofs.OnePass.{bare}
use Rattle.topics.proofs.FrontGoesBy.{no_plus, no_hash}
use Rattle.packet_base.specs.declared.qos.QoS.{QoS}
use Rattle.packet_base.specs.QoS.{qos_number}
use Rattle.subs.specs.Shape.{Shape, asked_below}
use Rattle.subs.specs.Walk.{greatest, found_at, found_below}
use Rattle.subs.proofs.Raising.{greatest_left, greatest_right, greatest_either}

-- no level has a `/`
abbrev pub AreClean : Levels → Type 0
AreClean [] = Unit {0}
AreClean (level ∷ rest) = All (λ byte. (byte == 47) ≡ false) level × AreClean rest

clean_first : (x : ℕ) (parts : Levels) → (x == 47) ≡ false → AreClean parts → AreClean (onto_first x parts)
clean_first x [] e h = (All-cons (λ byte. (byte == 47) ≡ false) x [] e (All-nil (λ byte. (byte == 47) ≡ false)), tt)
clean_first x (part ∷ parts) e h = (All-cons (λ byte. (byte == 47) ≡ false) x part e h.0, h.1)

pub levels_clean : (text : List ℕ) → AreClean (levels text)
levels_clean [] = (All-nil (λ byte. (byte == 47) ≡ false), tt)
levels_clean (x ∷ xs) =
    elim (x == 47) as (λ v. (x == 47) ≡ v → AreClean (cond v ([] ∷ levels xs) (onto_first x (levels xs)))) [
      | true ↦ λ e. (All-nil (λ byte. (byte == 47) ≡ false), levels_clean xs)
      | false ↦ λ e. clean_first x (levels xs) e (levels_clean xs)
    ] refl

-- a filter of these levels
pub text_of : (level : List ℕ) (rest : Levels) → AreClean (level ∷ rest) → (after : List ℕ) × (levels (level ++ after) ≡ level ∷ rest)
text_of level [] h = ([], ap levels (append-nil level) ∙ slice_split_none (λ byte. byte == 47) level h.0)
text_of level (next ∷ rest) h =
    let r = text_of next rest h.1 in
    (47 ∷ (next ++ r.0), slice_split_at (λ byte. byte == 47) level 47 (next ++ r.0) h.0 refl ∙ ap (λ (ls : Levels). level ∷ ls) r.1)

clean_hash : AreClean (codes "#" ∷ [])
clean_hash = (All-cons (λ byte. (byte == 47) ≡ false) 35 [] refl (All-nil (λ byte. (byte == 47) ≡ false)), tt)

clean_plus : All (λ byte. (byte == 47) ≡ false) (codes "+")
clean_plus = All-cons (λ byte. (byte == 47) ≡ false) 43 [] refl (All-nil (λ byte. (byte == 47) ≡ false))

not_all : (level : List ℕ) (rest : Levels) → bytes_eq level (codes "#") ≡ false → is_all level rest ≡ false
not_all level rest e = rw e refl

same : (level : List ℕ) → bytes_eq level level ≡ true
same level = (bytes_decides level level).1 refl

pub matching : (level : List ℕ) (filter : Levels) (t : List ℕ) (ts : Levels) → is_all level filter ≡ false → matches_rest (level ∷ filter) (t ∷ ts) ≡ true → ((level ≡ codes "+") ⊎ (level ≡ t)) × (matches_rest filter ts ≡ true)
matching level filter t ts all is =
    let both = and_parts (bytes_eq level (codes "+") || bytes_eq level t) (matches_rest filter ts) (sym (ap (λ b. b || ((bytes_eq level (codes "+") || bytes_eq level t) && matches_rest filter ts)) all) ∙ is) in (
      elim (bytes_eq level (codes "+")) as (λ v. bytes_eq level (codes "+") ≡ v → (v || bytes_eq level t) ≡ true → (level ≡ codes "+") ⊎ (level ≡ t)) [
        | true ↦ λ e h. inl ((bytes_decides level (codes "+")).0 e)
        | false ↦ λ e h. inr ((bytes_decides level t).0 h)
      ] refl both.0,
      both.1,
    )

module _ (s : Shape) where
  -- where a row comes from: a filter of clean levels that matches
  abbrev pub Origin : ℕ → Levels → List ℕ → QoS → Type 0
  Origin node topic client qos =
      (filter : Levels) × (asked_below s node filter client ≡ Some qos) × (matches_rest filter topic ≡ true) × AreClean filter

  from_rest : (node : ℕ) (topic : Levels) (client : List ℕ) (qos : QoS) → s.asked node true client ≡ Some qos → Origin node topic client qos
  from_rest node [] client qos is = (codes "#" ∷ [], is, refl, clean_hash)
  from_rest node (t ∷ ts) client qos is = (codes "#" ∷ [], is, refl, clean_hash)

  -- a row that is found after a level of the topic has its filter
  pub named_origin :
      (node : ℕ) (level : List ℕ) (topic : Levels) (client : List ℕ) (qos : QoS)
      → has_no_wildcard level ≡ true → All (λ byte. (byte == 47) ≡ false) level
      → ((below : ℕ) → found_at s below topic client ≡ Some qos → Origin below topic client qos)
      → found_below s node level topic client ≡ Some qos
      → (filter : Levels) × (asked_below s node (level ∷ filter) client ≡ Some qos) × (matches_rest (level ∷ filter) (level ∷ topic) ≡ true) × AreClean (level ∷ filter)
  named_origin node level topic client qos plain clean after found = go (s.child node level) refl found
    where
      go : (o : Option ℕ) → s.child node level ≡ o → option_and_then (λ b. found_at s b topic client) o ≡ Some qos
          → (filter : Levels) × (asked_below s node (level ∷ filter) client ≡ Some qos) × (matches_rest (level ∷ filter) (level ∷ topic) ≡ true) × AreClean (level ∷ filter)
      go None e is = absurd cc
      go (Some m) e is =
          let r = after m is in
          let all : is_all level r.0 ≡ false = not_all level r.0 (no_hash level plain) in (
            r.0,
            ap (λ b. cond b (s.asked node true client) (option_and_then (λ b. asked_below s b r.0 client) (s.child node level))) all
                ∙ ap (option_and_then (λ b. asked_below s b r.0 client)) e ∙ r.1,
            rw (no_hash level plain, no_plus level plain, same level) r.2,
            (clean, r.3),
          )

  plus_origin :
      (node : ℕ) (level : List ℕ) (topic : Levels) (client : List ℕ) (qos : QoS)
      → ((below : ℕ) → found_at s below topic client ≡ Some qos → Origin below topic client qos)
      → found_below s node (codes "+") topic client ≡ Some qos
      → Origin node (level ∷ topic) client qos
  plus_origin node level topic client qos after found = go (s.child node (codes "+")) refl found
    where
      go : (o : Option ℕ) → s.child node (codes "+") ≡ o → option_and_then (λ b. found_at s b topic client) o ≡ Some qos → Origin node (level ∷ topic) client qos
      go None e is = absurd cc
      go (Some m) e is =
          let r = after m is in
          (codes "+" ∷ r.0, ap (option_and_then (λ b. asked_below s b r.0 client)) e ∙ r.1, r.2, (clean_plus, r.3))

  pub found_origin : (node : ℕ) (topic : Levels) (client : List ℕ) (qos : QoS) → bare topic ≡ true → AreClean topic → found_at s node topic client ≡ Some qos → Origin node topic client qos
  found_origin node [] client qos plain clean found =
      elim (greatest_either (s.asked node true client) (s.asked node false client) qos found) as (λ _. Origin node [] client qos) [
        | inl is ↦ from_rest node [] client qos is
        | inr is ↦ ([], is, refl, tt)
      ]
  found_origin node (t ∷ ts) client qos plain clean found =
      let both = and_parts (has_no_wildcard t) (bare ts) plain in
      let after : (below : ℕ) → found_at s below ts client ≡ Some qos → Origin below ts client qos = λ below is. found_origin below ts client qos both.1 clean.1 is in
      elim (greatest_either (s.asked node true client) (greatest (found_below s node t ts client) (found_below s node (codes "+") ts client)) qos found) as (λ _. Origin node (t ∷ ts) client qos) [
        | inl is ↦ from_rest node (t ∷ ts) client qos is
        | inr is ↦
            elim (greatest_either (found_below s node t ts client) (found_below s node (codes "+") ts client) qos is) as (λ _. Origin node (t ∷ ts) client qos) [
              | inl named ↦
                  let r = named_origin node t ts client qos both.0 clean.0 after named in
                  (t ∷ r.0, r.1, r.2, r.3)
              | inr plus ↦ plus_origin node t ts client qos after plus
            ]
      ]

  -- at least the filter's QoS is found
  abbrev pub Reaches : ℕ → Levels → List ℕ → QoS → Type 0
  Reaches node topic client qos = (found : QoS) × (found_at s node topic client ≡ Some found) × (qos_number qos ≤ qos_number found)

  pub below_reached :
      (node : ℕ) (level : List ℕ) (filter topic : Levels) (client : List ℕ) (qos : QoS)
      → ((below : ℕ) → asked_below s below filter client ≡ Some qos → Reaches below topic client qos)
      → option_and_then (λ b. asked_below s b filter client) (s.child node level) ≡ Some qos
      → (found : QoS) × (found_below s node level topic client ≡ Some found) × (qos_number qos ≤ qos_number found)
  below_reached node level filter topic client qos after is = go (s.child node level) refl is
    where
      go : (o : Option ℕ) → s.child node level ≡ o → option_and_then (λ b. asked_below s b filter client) o ≡ Some qos
          → (found : QoS) × (found_below s node level topic client ≡ Some found) × (qos_number qos ≤ qos_number found)
      go None e is = absurd cc
      go (Some m) e is = let r = after m is in (r.0, ap (option_and_then (λ b. found_at s b topic client)) e ∙ r.1, r.2)

  rest_reached : (node : ℕ) (topic : Levels) (client : List ℕ) (qos : QoS) → s.asked node true client ≡ Some qos → Reaches node topic client qos
  rest_reached node [] client qos is = greatest_left _ _ qos is
  rest_reached node (t ∷ ts) client qos is = greatest_left _ _ qos is

  pub found_reaches : (node : ℕ) (filter topic : Levels) (client : List ℕ) (qos : QoS) → asked_below s node filter client ≡ Some qos → matches_rest filter topic ≡ true → Reaches node topic client qos
  found_reaches node [] [] client qos is match = greatest_right _ _ qos is
  found_reaches node [] (t ∷ ts) client qos is match = absurd cc
  found_reaches node (level ∷ filter) [] client qos is match =
      rest_reached node [] client qos
      (sym (ap (λ b. cond b (s.asked node true client) (option_and_then (λ b. asked_below s b filter client) (s.child node level))) match) ∙ is)
  found_reaches node (level ∷ filter) (t ∷ ts) client qos is match =
      elim (is_all level filter) as (λ v. is_all level filter ≡ v → cond v (s.asked node true client) (option_and_then (λ b. asked_below s b filter client) (s.child node level)) ≡ Some qos → Reaches node (t ∷ ts) client qos) [
        | true ↦ λ e k. rest_reached node (t ∷ ts) client qos k
        | false ↦ λ e k.
            let parts = matching level filter t ts e match in
            let below = below_reached node level filter ts client qos (λ m h. found_reaches m filter ts client qos h parts.1) k in
            let inner =
            elim parts.0 as (λ _. (r : QoS) × (greatest (found_below s node t ts client) (found_below s node (codes "+") ts client) ≡ Some r) × (qos_number below.0 ≤ qos_number r)) [
              | inl plus ↦ greatest_right (found_below s node t ts client) (found_below s node (codes "+") ts client) below.0 (ap (λ l. found_below s node l ts client) (sym plus) ∙ below.1)
              | inr named ↦ greatest_left (found_below s node t ts client) (found_below s node (codes "+") ts client) below.0 (ap (λ l. found_below s node l ts client) (sym named) ∙ below.1)
            ] in
            let outer = greatest_right (s.asked node true client) (greatest (found_below s node t ts client) (found_below s node (codes "+") ts client)) inner.0 inner.1 in
            let first = below.2 in
            let second = inner.2 in
            let third = outer.2 in
            (outer.0, outer.1, omega arith)
      ] refl is
