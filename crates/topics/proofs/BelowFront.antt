-- What a filter matches whose first levels have no wildcard is these levels, or is below them.
use Rattle.std.proofs.Common.{◌≡◌, ℕ, List, [], ◌∷◌, ◌++◌, true, false, ◌&&◌, ◌==◌, bytes_eq, refl, sym, ap, ◌∙◌, inl, inr, ◌⊎◌, append_assoc}
use Rattle.std.specs.Prelude.{not}
use Rattle.std.specs.List.{onto_first, join_with_byte}
use Rattle.std.proofs.lemmas.Bool.{and_parts}
use Rattle.std.proofs.lemmas.Slice.Eq.{bytes_eq-Decides}
use Rattle.std.proofs.lemmas.List.Splits.{slice_split-cons_yes, slice_split-cons_no, join_with_byte-slice_split}
use Rattle.topics.specs.Text.{Levels, levels, has_no_wildcard, is_last}
use Rattle.topics.specs.Matching.{is_match, matches_rest, is_all, is_hidden}
use Rattle.topics.proofs.LevelByLevel.{is_last_levels}
use Rattle.topics.proofs.FrontGoesBy.{no_plus, no_hash}
use Rattle.topics.proofs.OnePass.{bare, bare_levels}

onto_front : (b : ℕ) (front rest : Levels) → is_last front ≡ false → onto_first b (front ++ rest) ≡ onto_first b front ++ rest
onto_front b [] rest some = absurd cc
onto_front b (level ∷ front) rest some = refl

-- a `/` parts the levels
levels_parted : (front rest : List ℕ) → levels (front ++ 47 ∷ rest) ≡ levels front ++ levels rest
levels_parted [] rest = slice_split-cons_yes (λ c. c == 47) 47 rest refl
levels_parted (b ∷ front) rest =
    elim (b == 47) as (λ v. (b == 47) ≡ v → levels (b ∷ front ++ 47 ∷ rest) ≡ levels (b ∷ front) ++ levels rest) [
      | true ↦ λ is.
          rw (slice_split-cons_yes (λ c. c == 47) b (front ++ 47 ∷ rest) is, slice_split-cons_yes (λ c. c == 47) b front is)
          (ap (λ (parts : Levels). [] ∷ parts) (levels_parted front rest))
      | false ↦ λ is.
          rw (slice_split-cons_no (λ c. c == 47) b (front ++ 47 ∷ rest) is, slice_split-cons_no (λ c. c == 47) b front is)
          (ap (onto_first b) (levels_parted front rest) ∙ onto_front b (levels front) (levels rest) (is_last_levels front))
    ] refl

-- a level without wildcards is not `#`
not_all : (part : List ℕ) (rest : Levels) → has_no_wildcard part ≡ true → is_all part rest ≡ false
not_all part rest h = rw (no_hash part h) refl

-- the topic begins with the levels that have no wildcard
pub same_front : (front rest topic : Levels) → bare front ≡ true → matches_rest (front ++ rest) topic ≡ true → (others : Levels) × (topic ≡ front ++ others)
same_front [] rest topic h matched = (topic, refl)
same_front (part ∷ front) rest [] h matched =
    let clear = (and_parts (has_no_wildcard part) (bare front) h).0 in
    let never : false ≡ true = sym (not_all part (front ++ rest) clear) ∙ matched in
    absurd cc
same_front (part ∷ front) rest (level ∷ topic) h matched =
    let both = and_parts (has_no_wildcard part) (bare front) h in
    let one : (bytes_eq part level && matches_rest (front ++ rest) topic) ≡ true =
    sym (rw (not_all part (front ++ rest) both.0, no_plus part both.0) refl) ∙ matched in
    let parts = and_parts (bytes_eq part level) (matches_rest (front ++ rest) topic) one in
    let others = same_front front rest topic both.1 parts.1 in
    let same = (bytes_eq-Decides part level).0 parts.0 in
    (others.0, ap (λ (l : List ℕ). l ∷ topic) (sym same) ∙ ap (λ (ls : Levels). part ∷ ls) others.1)

-- levels joined with more after them
joined : (front others : Levels) → is_last front ≡ false
    → (join_with_byte 47 (front ++ others) ≡ join_with_byte 47 front) ⊎ ((more : List ℕ) × (join_with_byte 47 (front ++ others) ≡ join_with_byte 47 front ++ 47 ∷ more))
joined [] others some = absurd cc
joined (level ∷ []) [] some = inl refl
joined (level ∷ []) (other ∷ others) some = inr (join_with_byte 47 (other ∷ others), refl)
joined (level ∷ next ∷ front) others some =
    elim (joined (next ∷ front) others refl) [
      | inl e ↦ inl (ap (λ (x : List ℕ). level ++ 47 ∷ x) e)
      | inr more ↦ inr (more.0, ap (λ (x : List ℕ). level ++ 47 ∷ x) more.1 ∙ sym (append_assoc level (47 ∷ join_with_byte 47 (next ∷ front)) (47 ∷ more.0)))
    ]

pub below_front : (front rest topic : List ℕ) → has_no_wildcard front ≡ true → is_match (front ++ 47 ∷ rest) topic ≡ true
    → (topic ≡ front) ⊎ ((more : List ℕ) × (topic ≡ front ++ 47 ∷ more))
below_front front rest topic clear matched =
    let filter = front ++ 47 ∷ rest in
    let level_by_level = (and_parts (not (is_hidden filter topic)) (matches_rest (levels filter) (levels topic)) matched).1 in
    let parted : matches_rest (levels front ++ levels rest) (levels topic) ≡ true =
    sym (ap (λ (parts : Levels). matches_rest parts (levels topic)) (levels_parted front rest)) ∙ level_by_level in
    let others = same_front (levels front) (levels rest) (levels topic) (bare_levels front clear) parted in
    let whole : topic ≡ join_with_byte 47 (levels front ++ others.0) =
    sym (join_with_byte-slice_split 47 topic) ∙ ap (join_with_byte 47) others.1 in
    elim (joined (levels front) others.0 (is_last_levels front)) [
      | inl e ↦ inl (whole ∙ e ∙ join_with_byte-slice_split 47 front)
      | inr more ↦
          inr (more.0, whole ∙ more.1 ∙ ap (λ (x : List ℕ). x ++ 47 ∷ more.0) (join_with_byte-slice_split 47 front))
    ]
