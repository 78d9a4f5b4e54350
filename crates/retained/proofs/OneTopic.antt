-- A filter without wildcards finds what is kept of the topic of its text.
use Rattle.std.proofs.Common.{Less, ◌≡◌, ℕ, List, [], ◌∷◌, ◌++◌, Bool, true, false, bytes_eq, refl, ◌∙◌, sym, Some}
use Rattle.std.specs.Map.{keys_of}
use Rattle.std.specs.List.{AllByRecursion}
use Rattle.std.specs.List.Sorted.{IsStrictlySortedBy}
use Rattle.std.specs.Cmp.Lexicographic.{slice_cmp, texts_ties, bytes_decides}
use Rattle.std.specs.Ordering.{nat_cmp}
use Rattle.std.proofs.lemmas.List.{append-nil}
use Rattle.std.proofs.lemmas.Map.Keys.{sorted_head, sorted_tail}
use Rattle.topics.specs.Text.{has_no_wildcard}
use Rattle.topics.proofs.ItselfAlone.{alone}
use Rattle.retained.specs.declared.retained_publication.RetainedPublication.{RetainedPublication}
use Rattle.retained.specs.Retained.{RetainedTopics, publication_on, matching_entries}
use Rattle.retained.specs.Inside.{entry_of}

-- no topic above this one has its text
none_above : (asked : List ℕ) (content : RetainedTopics) → has_no_wildcard asked ≡ true → AllByRecursion (λ topic. slice_cmp nat_cmp asked topic ≡ Less) (keys_of content) → matching_entries content asked ≡ []
none_above asked [] bare above = refl
none_above asked (entry ∷ content) bare above =
    rw (alone asked entry.0 bare, texts_ties asked entry.0, above.0) (none_above asked content bare above.1)

pub one_topic : (asked : List ℕ) (content : RetainedTopics) → has_no_wildcard asked ≡ true → IsStrictlySortedBy (slice_cmp nat_cmp) (keys_of content) → matching_entries content asked ≡ entry_of asked (publication_on asked content)
one_topic asked [] bare rising = refl
one_topic asked (entry ∷ content) bare rising = go (bytes_eq asked entry.0) refl (one_topic asked content bare (sorted_tail (slice_cmp nat_cmp) entry.0 (keys_of content) rising))
  where
    go : (v : Bool) → bytes_eq asked entry.0 ≡ v → matching_entries content asked ≡ entry_of asked (publication_on asked content) → matching_entries (entry ∷ content) asked ≡ entry_of asked (publication_on asked (entry ∷ content))
    go true is rest =
        let same = (bytes_decides asked entry.0).0 is in
        let above = sorted_head (slice_cmp nat_cmp) entry.0 (keys_of content) rising in
        rw (alone asked entry.0 bare, is, sym (texts_ties asked entry.0) ∙ is) (
        rw (none_above asked content bare (rw same above)) (rw same refl))
    go false is rest = rw (alone asked entry.0 bare, is, sym (texts_ties asked entry.0) ∙ is) rest

pub none_more : (entries found : RetainedTopics) → found ≡ [] → entries ≡ entries ++ found
none_more entries found none = rw (none) (sym (append-nil entries))

-- if it is kept, something is found
pub never_none : (asked : List ℕ) (found : RetainedTopics) (kept : RetainedPublication) → found ≡ entry_of asked (Some kept) → found ≡ [] → ⊥
never_none asked found kept is none = absurd (let clash : (asked, kept) ∷ [] ≡ (let empty : RetainedTopics = [] in empty) = sym is ∙ none in cc)
