-- Theorems about matching, proved by `src/theorems.rt`.
use Rattle.std.specs.Prelude.{◌≡◌, ℕ, true, List, IsTrue, ◌↔◌}
use Rattle.topics.specs.Text.{has_no_wildcard}
use Rattle.topics.specs.Matching.{Matches, is_match}

-- the test is true exactly if the filter matches (MQTT 4.7)
abbrev pub MatchesIsTested : Type 0
MatchesIsTested = (filter topic : List ℕ) → IsTrue (is_match filter topic) ↔ Matches filter topic

-- a filter without wildcards matches only the topic of its own text (MQTT 4.7)
abbrev pub BareMatchesItself : Type 0
BareMatchesItself =
    (filter topic : List ℕ) → has_no_wildcard filter ≡ true
    → Matches filter topic ↔ (filter ≡ topic)
