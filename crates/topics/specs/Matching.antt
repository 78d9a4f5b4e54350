-- Which Topic Names a Topic Filter matches (MQTT 4.7).
use Rattle.std.specs.Prelude.{
  ◌≡◌,
  ℕ,
  Bool,
  true,
  false,
  not,
  ◌&&◌,
  ◌||◌,
  ◌==◌,
  IsTrue,
  List,
  [],
  ◌∷◌,
  codes,
  bytes_eq,
  ◌⊎◌,
}
use Rattle.topics.specs.Text.{Levels, levels, is_last}

-- the levels that are left are `#` alone, which matches every rest, the empty one included (MQTT
-- 4.7.1.2)
abbrev pub IsAll : List ℕ → Levels → Type 0
IsAll part filter = (part ≡ codes "#") × (filter ≡ [])

-- level by level: `+` matches any one level, any other level only itself (MQTT 4.7.1.3)
abbrev pub MatchesRest : Levels → Levels → Type 0
MatchesRest [] [] = Unit {0}
MatchesRest [] (level ∷ topic) = ⊥
MatchesRest (part ∷ filter) [] = IsAll part filter
MatchesRest (part ∷ filter) (level ∷ topic) =
    IsAll part filter ⊎ (((part ≡ codes "+") ⊎ (part ≡ level)) × MatchesRest filter topic)

-- whether a text begins with this byte
abbrev pub starts_with : ℕ → List ℕ → Bool
starts_with byte [] = false
starts_with byte (first ∷ _) = first == byte

-- whether a filter begins with `#` (35) or `+` (43)
abbrev pub starts_with_wildcard : List ℕ → Bool
starts_with_wildcard filter = starts_with 35 filter || starts_with 43 filter

-- a filter that begins with a wildcard does not match a topic that begins with `$` (36) (MQTT
-- 4.7.2)
abbrev pub is_hidden : List ℕ → List ℕ → Bool
is_hidden filter topic = starts_with_wildcard filter && starts_with 36 topic

-- the filter matches the topic (MQTT 4.7)
abbrev pub Matches : List ℕ → List ℕ → Type 0
Matches filter topic =
    IsTrue (not (is_hidden filter topic)) × MatchesRest (levels filter) (levels topic)

-- `IsAll` as a test
abbrev pub is_all : List ℕ → Levels → Bool
is_all part filter = bytes_eq part (codes "#") && is_last filter

-- `MatchesRest` as a test
abbrev pub matches_rest : Levels → Levels → Bool
matches_rest [] [] = true
matches_rest [] (level ∷ topic) = false
matches_rest (part ∷ filter) [] = is_all part filter
matches_rest (part ∷ filter) (level ∷ topic) =
    is_all part filter
    || ((bytes_eq part (codes "+") || bytes_eq part level) && matches_rest filter topic)

-- `Matches` as a test
abbrev pub is_match : List ℕ → List ℕ → Bool
is_match filter topic =
    not (is_hidden filter topic) && matches_rest (levels filter) (levels topic)
