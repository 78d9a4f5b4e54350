-- Definitions for the private functions of a store.
use Rattle.std.specs.Prelude.{◌≡◌, ℕ, true, List, [], ◌∷◌, ◌++◌, Option, Some, None}
use Rattle.std.specs.declared.ops.Bound.{Bound}
use Rattle.std.specs.BTreeMap.Range.{range_contains}
use Rattle.std.specs.Cmp.Lexicographic.{slice_cmp}
use Rattle.std.specs.Ordering.{nat_cmp}
use Rattle.topics.specs.Text.{has_no_wildcard}
use Rattle.topics.specs.Matching.{is_match}
use Rattle.retained.specs.declared.retained_publication.RetainedPublication.{RetainedPublication}
use Rattle.retained.specs.Retained.{RetainedTopics}

-- the topic with its retained publication, if there is one
abbrev pub entry_of : List ℕ → Option RetainedPublication → RetainedTopics
entry_of topic None = []
entry_of topic (Some kept) = (topic, kept) ∷ []

-- the text continues with a `/` (47) after this front
abbrev pub IsFront : List ℕ → List ℕ → Type 0
IsFront front filter = (rest : List ℕ) × (filter ≡ front ++ 47 ∷ rest)

-- the filter begins with these levels, which have no wildcard, and a `/`
abbrev pub StandsBefore : List ℕ → List ℕ → Type 0
StandsBefore front filter = (has_no_wildcard front ≡ true) × IsFront front filter

-- such levels, and the least text above all that begin with them and a `/`
abbrev pub IsAround : List ℕ → List ℕ → List ℕ → Type 0
IsAround filter first end = StandsBefore first filter × (end ≡ first ++ 48 ∷ [])

-- each topic that the filter matches is within the bounds
abbrev pub HoldsMatches : List ℕ → Bound (List ℕ) → Bound (List ℕ) → Type 0
HoldsMatches filter start end = (topic : List ℕ) → is_match filter topic ≡ true
    → range_contains (slice_cmp nat_cmp) start end topic ≡ true
