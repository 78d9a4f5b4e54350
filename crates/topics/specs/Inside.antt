-- Definitions for the private functions of matching.
use Rattle.std.specs.Prelude.{
  ◌≡◌,
  ◌≢◌,
  ℕ,
  Bool,
  true,
  ◌&&◌,
  ◌==◌,
  if◌then◌else◌,
  List,
  [],
  ◌∷◌,
  length,
  codes,
  bytes_eq,
}
use Rattle.topics.specs.Text.{levels, has_wildcards_in_place, has_no_wildcard}
use Rattle.topics.specs.Matching.{matches_rest}

-- the filter and the topic match level by level, without the rule for `$`
abbrev pub matches_levels : List ℕ → List ℕ → Bool
matches_levels filter topic = matches_rest (levels filter) (levels topic)

-- what is matched: a filter with its wildcards in place, and a topic without wildcards
pub record IsPair (filter topic : List ℕ) : Type 0 where
  pub in_place : has_wildcards_in_place (levels filter) ≡ true
  pub name : has_no_wildcard topic ≡ true

-- what is left of such a pair: the whole pair matches exactly if the rests do
pub record IsLeft (filter topic parts names : List ℕ) : Type 0 where
  pub pair : IsPair parts names
  pub same : matches_levels parts names ≡ matches_levels filter topic

-- the first bytes differ, or a text is empty
abbrev pub IsApart : List ℕ → List ℕ → Type 0
IsApart [] topic = Unit {0}
IsApart (part ∷ filter) [] = Unit {0}
IsApart (part ∷ filter) (name ∷ topic) = part ≢ name

-- the text from its first `/` (47) on; empty if it has none
abbrev pub after_level : List ℕ → List ℕ
after_level [] = []
after_level (byte ∷ text) = if byte == 47 then byte ∷ text else after_level text

-- rests that are apart match: both are empty, or the filter's begins with `#`, or it is `/#` and
-- the topic's is empty
abbrev pub ends_match : List ℕ → List ℕ → Bool
ends_match [] names = length names == 0
ends_match (part ∷ parts) names =
    if part == 35 then true else ((part == 47 && bytes_eq parts (codes "#")) && length names == 0)
