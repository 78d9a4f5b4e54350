-- A filter without wildcards matches only the topic of its own text.
use Rattle.std.proofs.Common.{◌≡◌, ℕ, List, [], ◌∷◌, Bool, true, false, ◌↔◌, codes, bytes_eq, refl, ap, ◌∙◌, sym, subst}
use Rattle.std.specs.List.{join_with_byte}
use Rattle.std.proofs.lemmas.Bool.{true≢false, and_parts, false_from_ne_true}
use Rattle.std.proofs.lemmas.List.Splits.{join_with_byte-slice_split}
use Rattle.std.proofs.lemmas.Slice.Eq.{bytes_eq-Decides}
use Rattle.topics.specs.Text.{Levels, levels, has_no_wildcard}
use Rattle.topics.specs.Matching.{Matches, matches_rest, is_match, is_hidden}
use Rattle.topics.proofs.FrontGoesBy.{no_wildcard_parts, no_plus, no_hash}
use Rattle.topics.proofs.OnePass.{bare, bare_levels}
use Rattle.topics.proofs.MatchingIsTested.{tested}

same : (part : List ℕ) → bytes_eq part part ≡ true
same part = (bytes_eq-Decides part part).1 refl

-- levels without wildcards match themselves
levels_self : (parts : Levels) → bare parts ≡ true → matches_rest parts parts ≡ true
levels_self [] h = refl
levels_self (part ∷ parts) h =
    let both = and_parts (has_no_wildcard part) (bare parts) h in
    rw (no_plus part both.0, no_hash part both.0, same part) (levels_self parts both.1)

-- and no others
levels_alone : (parts names : Levels) → bare parts ≡ true → matches_rest parts names ≡ true → parts ≡ names
levels_alone [] [] h m = refl
levels_alone [] (name ∷ names) h m = absurd cc
levels_alone (part ∷ parts) [] h m =
    let both = and_parts (has_no_wildcard part) (bare parts) h in
    let all = and_parts (bytes_eq part (codes "#")) _ m in
    absurd (true≢false (sym all.0 ∙ no_hash part both.0))
levels_alone (part ∷ parts) (name ∷ names) h m =
    let both = and_parts (has_no_wildcard part) (bare parts) h in
    let k = and_parts (bytes_eq part name) (matches_rest parts names) (rw (no_plus part both.0, no_hash part both.0) at m) in
    let first = (bytes_eq-Decides part name).0 k.0 in
    rw (first, levels_alone parts names both.1 k.1) refl

text_of_levels : (text other : List ℕ) → levels text ≡ levels other → text ≡ other
text_of_levels text other is =
    sym (join_with_byte-slice_split 47 text) ∙ ap (join_with_byte 47) is ∙ join_with_byte-slice_split 47 other

not_hidden : (filter topic : List ℕ) → has_no_wildcard filter ≡ true → is_hidden filter topic ≡ false
not_hidden [] topic h = refl
not_hidden (b ∷ filter) topic h =
    let parts = no_wildcard_parts b filter h in
    rw (parts.0, parts.1) refl

pub alone : (filter topic : List ℕ) → has_no_wildcard filter ≡ true → is_match filter topic ≡ bytes_eq filter topic
alone filter topic h = rw (not_hidden filter topic h) (go (bytes_eq filter topic) refl)
  where
    go : (v : Bool) → bytes_eq filter topic ≡ v → matches_rest (levels filter) (levels topic) ≡ v
    go true is =
        subst (λ (text : List ℕ). matches_rest (levels filter) (levels text) ≡ true) ((bytes_eq-Decides filter topic).0 is)
        (levels_self (levels filter) (bare_levels filter h))
    go false is =
        false_from_ne_true (matches_rest (levels filter) (levels topic))
        (λ m. true≢false (sym ((bytes_eq-Decides filter topic).1 (text_of_levels filter topic (levels_alone (levels filter) (levels topic) (bare_levels filter h) m))) ∙ is))

pub itself_alone : (filter topic : List ℕ) → has_no_wildcard filter ≡ true → Matches filter topic ↔ (filter ≡ topic)
itself_alone filter topic h =
    let test = tested filter topic in
    let one = alone filter topic h in
    (λ m. (bytes_eq-Decides filter topic).0 (sym one ∙ test.1 m), λ is. test.0 (one ∙ (bytes_eq-Decides filter topic).1 is))
