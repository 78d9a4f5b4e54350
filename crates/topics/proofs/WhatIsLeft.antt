-- What is left of a filter and a topic that begin with different bytes matches if nothing is left
-- of both, or `#` of the filter, or `/#` of the filter and nothing of the topic.
use Rattle.std.proofs.Common.{◌≡◌, ◌≢◌, ℕ, List, [], ◌∷◌, Bool, true, false, not, ◌==◌, ◌&&◌, ◌||◌, codes, bytes_eq, length, refl, ap, ◌∙◌, sym, arith}
use Rattle.std.specs.List.{onto_first, join_with_byte}
use Rattle.std.proofs.lemmas.Bool.{and_parts, ne_eqb, eqb-true, false_from_ne_true}
use Rattle.std.proofs.lemmas.List.Splits.{slice_split-cons_yes, slice_split-cons_no, join_with_byte-slice_split}
use Rattle.std.proofs.lemmas.Slice.Eq.{bytes_eq-Decides}
use Rattle.topics.specs.Text.{Levels, levels, contains_byte, may_stand, has_wildcards_in_place, is_last}
use Rattle.topics.specs.Matching.{matches_rest}
use Rattle.topics.specs.Inside.{matches_levels, IsApart}
use Rattle.topics.proofs.LevelByLevel.{is_last_levels}

abbrev is_slash : ℕ → Bool
is_slash c = c == 47

abbrev pub has_ended : List ℕ → Bool
has_ended [] = true
has_ended (c ∷ topic) = false

pub ended_is : (topic : List ℕ) → (length topic == 0) ≡ has_ended topic
ended_is [] = refl
ended_is (c ∷ topic) = ne_eqb (length (c ∷ topic)) 0 (λ e. omega arith)

-- `#` with more in its level is in no place
no_more : (b : ℕ) (level : List ℕ) (last : Bool) → may_stand (35 ∷ b ∷ level) last ≡ true → ⊥
no_more b level last h = go (not (contains_byte 43 (b ∷ level))) last h
  where
    go : (a last : Bool) → (((a && false) || false) || (false && last)) ≡ true → ⊥
    go true last h = cc
    go false last h = cc

-- a level that begins with this byte matches no empty level
not_empty : (b : ℕ) (filter topic : Levels) → is_last filter ≡ false → (b == 43) ≡ false → (b == 35) ≡ false → matches_rest (onto_first b filter) ([] ∷ topic) ≡ false
not_empty b [] topic some plus hash = absurd cc
not_empty b (f ∷ filter) topic some plus hash = rw (plus, hash) refl

-- and none that begins with another one
not_other : (b c : ℕ) (filter topic : Levels) → is_last filter ≡ false → is_last topic ≡ false → (b == 43) ≡ false → (b == 35) ≡ false → (b == c) ≡ false → matches_rest (onto_first b filter) (onto_first c topic) ≡ false
not_other b c [] topic some_f some_t plus hash apart = absurd cc
not_other b c (f ∷ filter) [] some_f some_t plus hash apart = absurd cc
not_other b c (f ∷ filter) (t ∷ topic) some_f some_t plus hash apart = rw (plus, hash, apart) refl

-- the empty level matches no other one
empty_other : (c : ℕ) (filter topic : Levels) → is_last topic ≡ false → matches_rest ([] ∷ filter) (onto_first c topic) ≡ false
empty_other c filter [] some = absurd cc
empty_other c filter (t ∷ topic) some = refl

-- nothing is matched by `#` alone
all_alone : (filter : Levels) → is_last filter ≡ false → matches_rest filter [] ≡ true → filter ≡ (35 ∷ []) ∷ []
all_alone [] some h = absurd cc
all_alone (f ∷ []) some h =
    ap (λ (level : List ℕ). level ∷ []) ((bytes_eq-Decides f (codes "#")).0 (and_parts (bytes_eq f (codes "#")) true h).0)
all_alone (f ∷ g ∷ filter) some h =
    let no : false ≡ true = (and_parts (bytes_eq f (codes "#")) false h).1 in
    absurd cc

hash_alone : (text : List ℕ) → matches_rest (levels text) [] ≡ true → text ≡ 35 ∷ []
hash_alone text h =
    sym (join_with_byte-slice_split 47 text) ∙ ap (join_with_byte 47) (all_alone (levels text) (is_last_levels text) h)

-- nothing is left of the filter
pub nothing_left : (topic : List ℕ) → matches_levels [] topic ≡ has_ended topic
nothing_left [] = refl
nothing_left (c ∷ topic) =
    elim (c == 47) as (λ v. (c == 47) ≡ v → matches_rest ([] ∷ []) (levels (c ∷ topic)) ≡ false) [
      | true ↦ λ is. rw (slice_split-cons_yes is_slash c topic is) (rest (levels topic) (is_last_levels topic))
      | false ↦ λ is. rw (slice_split-cons_no is_slash c topic is) (empty_other c [] (levels topic) (is_last_levels topic))
    ] refl
  where
    rest : (topic : Levels) → is_last topic ≡ false → matches_rest [] topic ≡ false
    rest [] some = absurd cc
    rest (t ∷ topic) some = refl

-- `#` is alone, and matches whatever is left
pub hash_left : (filter topic : List ℕ) → has_wildcards_in_place (levels (35 ∷ filter)) ≡ true → matches_levels (35 ∷ filter) topic ≡ true
hash_left filter topic h = all (levels filter) (levels topic) (is_last_levels filter) (is_last_levels topic) h
  where
    all : (filter topic : Levels) → is_last filter ≡ false → is_last topic ≡ false → has_wildcards_in_place (onto_first 35 filter) ≡ true → matches_rest (onto_first 35 filter) topic ≡ true
    all [] topic some_f some_t h = absurd cc
    all (f ∷ filter) [] some_f some_t h = absurd cc
    all ([] ∷ []) (t ∷ topic) some_f some_t h = refl
    all ([] ∷ g ∷ filter) (t ∷ topic) some_f some_t h =
        let stands : false ≡ true = (and_parts (may_stand (35 ∷ []) false) (has_wildcards_in_place (g ∷ filter)) h).0 in
        absurd cc
    all ((b ∷ f) ∷ filter) (t ∷ topic) some_f some_t h =
        absurd (no_more b f (is_last filter) (and_parts (may_stand (35 ∷ b ∷ f) (is_last filter)) (has_wildcards_in_place filter) h).0)

-- `/#` matches the nothing that is left, and no other topic that begins otherwise
pub parent_left : (topic : List ℕ) → IsApart (47 ∷ 35 ∷ []) topic → matches_levels (47 ∷ 35 ∷ []) topic ≡ has_ended topic
parent_left [] apart = refl
parent_left (c ∷ topic) apart =
    rw (slice_split-cons_no is_slash c topic (ne_eqb c 47 (λ e. apart (sym e)))) (empty_other c (levels (35 ∷ [])) (levels topic) (is_last_levels topic))

-- any other filter matches no topic that begins otherwise
pub other_left : (b : ℕ) (filter topic : List ℕ) → b ≢ 43 → b ≢ 35 → (b ≡ 47 → filter ≢ 35 ∷ []) → IsApart (b ∷ filter) topic → matches_levels (b ∷ filter) topic ≡ false
other_left b filter [] plus hash parent apart =
    elim (b == 47) as (λ v. (b == 47) ≡ v → matches_rest (levels (b ∷ filter)) ([] ∷ []) ≡ false) [
      | true ↦ λ is.
          rw (slice_split-cons_yes is_slash b filter is)
          (false_from_ne_true (matches_rest (levels filter) []) (λ h. parent (eqb-true b 47 is) (hash_alone filter h)))
      | false ↦ λ is.
          rw (slice_split-cons_no is_slash b filter is)
          (not_empty b (levels filter) [] (is_last_levels filter) (ne_eqb b 43 plus) (ne_eqb b 35 hash))
    ] refl
other_left b filter (c ∷ topic) plus hash parent apart =
    elim (b == 47) as (λ v. (b == 47) ≡ v → matches_rest (levels (b ∷ filter)) (levels (c ∷ topic)) ≡ false) [
      | true ↦ λ is.
          rw (slice_split-cons_yes is_slash b filter is, slice_split-cons_no is_slash c topic (ne_eqb c 47 (λ e. apart (eqb-true b 47 is ∙ sym e))))
          (empty_other c (levels filter) (levels topic) (is_last_levels topic))
      | false ↦ λ is. rw (slice_split-cons_no is_slash b filter is) (level_left (c == 47) refl)
    ] refl
  where
    level_left : (v : Bool) → (c == 47) ≡ v → matches_rest (onto_first b (levels filter)) (levels (c ∷ topic)) ≡ false
    level_left true is =
        rw (slice_split-cons_yes is_slash c topic is)
        (not_empty b (levels filter) (levels topic) (is_last_levels filter) (ne_eqb b 43 plus) (ne_eqb b 35 hash))
    level_left false is =
        rw (slice_split-cons_no is_slash c topic is)
        (not_other b c (levels filter) (levels topic) (is_last_levels filter) (is_last_levels topic) (ne_eqb b 43 plus) (ne_eqb b 35 hash) (ne_eqb b c apart))
