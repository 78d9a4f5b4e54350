-- A `+` is skipped with the level that it matches.
use Rattle.std.proofs.Common.{◌≡◌, ℕ, zero, suc, ◌-◌, ◌<◌, List, [], ◌∷◌, true, false, ◌==◌, cond, length, get_or, take, drop, refl, ap, ◌∙◌, arith}
use Rattle.std.specs.List.{onto_first}
use Rattle.std.proofs.lemmas.Bool.{and_parts, eq-eqb, ne_eqb}
use Rattle.std.proofs.lemmas.List.{take_rest}
use Rattle.std.proofs.lemmas.List.Splits.{slice_split-cons_yes, slice_split-cons_no}
use Rattle.topics.specs.Text.{Levels, levels, has_no_wildcard, may_stand, has_wildcards_in_place, is_last}
use Rattle.topics.specs.Matching.{matches_rest}
use Rattle.topics.specs.Inside.{IsPair, IsLeft, after_level}
use Rattle.topics.proofs.LevelByLevel.{is_last_levels}
use Rattle.topics.proofs.FrontGoesBy.{no_wildcard_parts}

cut : (text : List ℕ) (i : ℕ) → i < length text → ((k : ℕ) → k < i → get_or text k 0 ≡ 47 → ⊥) → get_or text i 0 ≡ 47 → drop i text ≡ after_level text
cut [] i lt before at = absurd (omega arith)
cut (x ∷ xs) zero lt before at = rw (eq-eqb x 47 at) refl
cut (x ∷ xs) (suc i) lt before at =
    rw (ne_eqb x 47 (before 0 (omega arith))) (cut xs i (omega arith) (λ k h. before (suc k) (omega arith)) at)

-- no `/` is before the place
pub after_cut : (text : List ℕ) (i : ℕ) → i < length text → ((k : ℕ) → k < i → get_or text k 0 ≡ 47 → ⊥) → get_or text i 0 ≡ 47 → take (length text - i) (drop i text) ≡ after_level text
after_cut text i lt before at = rw (take_rest text i) (cut text i lt before at)

pub after_none : (text : List ℕ) → ((k : ℕ) → k < length text → get_or text k 0 ≡ 47 → ⊥) → [] ≡ after_level text
after_none [] none = refl
after_none (x ∷ xs) none =
    rw (ne_eqb x 47 (none 0 (omega arith))) (after_none xs (λ k h. none (suc k) (omega arith)))

-- the levels after the first
abbrev others : Levels → Levels
others [] = []
others (level ∷ rest) = rest

others_on : (b : ℕ) (parts : Levels) → others (onto_first b parts) ≡ others parts
others_on b [] = refl
others_on b (part ∷ parts) = refl

-- the others come after a level
level_after : (text : List ℕ) → levels (after_level text) ≡ [] ∷ others (levels text)
level_after [] = refl
level_after (b ∷ text) =
    elim (b == 47) as (λ v. (b == 47) ≡ v → levels (cond v (b ∷ text) (after_level text)) ≡ [] ∷ others (levels (b ∷ text))) [
      | true ↦ λ is. rw (slice_split-cons_yes (λ c. c == 47) b text is) refl
      | false ↦ λ is. rw (slice_split-cons_no (λ c. c == 47) b text is, others_on b (levels text)) (level_after text)
    ] refl

name_after : (text : List ℕ) → has_no_wildcard text ≡ true → has_no_wildcard (after_level text) ≡ true
name_after [] h = refl
name_after (b ∷ text) h =
    elim (b == 47) as (λ v. has_no_wildcard (cond v (b ∷ text) (after_level text)) ≡ true) [
      | true ↦ h
      | false ↦ name_after text (no_wildcard_parts b text h).2
    ]

-- `+` is alone in its level, and matches any first level
plus_alone : (filter topic : Levels) → is_last filter ≡ false → is_last topic ≡ false → has_wildcards_in_place (onto_first 43 filter) ≡ true
    → (has_wildcards_in_place filter ≡ true) × (matches_rest filter ([] ∷ others topic) ≡ matches_rest (onto_first 43 filter) topic)
plus_alone [] topic some_f some_t h = absurd cc
plus_alone (f ∷ filter) [] some_f some_t h = absurd cc
plus_alone ([] ∷ filter) (t ∷ topic) some_f some_t h =
    ((and_parts (may_stand (43 ∷ []) (is_last filter)) (has_wildcards_in_place filter) h).1, refl)
plus_alone ((b ∷ f) ∷ filter) (t ∷ topic) some_f some_t h =
    let stands : false ≡ true = (and_parts (may_stand (43 ∷ b ∷ f) (is_last filter)) (has_wildcards_in_place filter) h).0 in
    absurd cc

pub plus_goes_by : (filter topic : List ℕ) → IsPair (43 ∷ filter) topic → IsLeft (43 ∷ filter) topic filter (after_level topic)
plus_goes_by filter topic pair =
    let one = plus_alone (levels filter) (levels topic) (is_last_levels filter) (is_last_levels topic) pair.in_place in
    record {
      pair = record { in_place = one.0; name = name_after topic pair.name };
      same = ap (matches_rest (levels filter)) (level_after topic) ∙ one.1;
    }
