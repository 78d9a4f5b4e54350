-- The retained publications: the last one of each topic (MQTT 3.3.1.3).
use Rattle.std.specs.Prelude.{ℕ, Bool, not, ◌&&◌, ◌==◌, nat_le, List, [], ◌∷◌, length, filter}
use Rattle.std.specs.Prelude.{Option, is_none}
use Rattle.std.specs.BTreeMap.{insert_entry, is_at}
use Rattle.std.specs.Map.{lookup, remove_entry, keys_of}
use Rattle.std.specs.List.Sorted.{IsStrictlySortedBy}
use Rattle.std.specs.Cmp.Lexicographic.{slice_cmp}
use Rattle.std.specs.Ordering.{nat_cmp}
use Rattle.topics.specs.Matching.{is_match}
use Rattle.packet_base.specs.declared.qos.QoS.{QoS}
use Rattle.retained.specs.declared.retained_publication.RetainedPublication.{RetainedPublication}
use Rattle.retained.specs.declared.retained_store.TheConstants.{MAX_TOPICS}

-- the topics in ascending order of their bytes, each once, with their retained publications
abbrev pub RetainedTopics : Type 0
RetainedTopics = List (List ℕ × RetainedPublication)

-- the topics are in ascending order, each once
abbrev pub IsRising : RetainedTopics → Type 0
IsRising content = IsStrictlySortedBy (slice_cmp nat_cmp) (keys_of content)

-- the retained publication of a topic
abbrev pub publication_on : List ℕ → RetainedTopics → Option RetainedPublication
publication_on topic content = lookup (is_at (slice_cmp nat_cmp topic)) content

-- the topic's publication is replaced, or inserted at its place in the order
abbrev pub with_topic : RetainedTopics → List ℕ → RetainedPublication → RetainedTopics
with_topic content topic kept = insert_entry (slice_cmp nat_cmp) content topic kept

-- the topic's publication is removed
abbrev pub without_topic : RetainedTopics → List ℕ → RetainedTopics
without_topic content topic = remove_entry (is_at (slice_cmp nat_cmp topic)) content

-- after a publication: an empty payload removes the topic's one (MQTT 3.3.1.3)
abbrev pub after_put : RetainedTopics → List ℕ → QoS → List ℕ → RetainedTopics
after_put content topic qos [] = without_topic content topic
after_put content topic qos (byte ∷ payload) =
    with_topic content topic (record { qos = qos; payload = byte ∷ payload })

-- whether a payload has no bytes
abbrev pub is_empty : List ℕ → Bool
is_empty payload = length payload == 0

-- the most topics with a retained publication, this broker's own limit
abbrev pub max_topics : ℕ
max_topics = MAX_TOPICS

-- the topic would exceed the limit
abbrev pub is_full_for : RetainedTopics → List ℕ → Bool
is_full_for content topic =
    is_none (publication_on topic content) && nat_le max_topics (length content)

-- the publication is refused because its topic would exceed the limit; an empty payload never is
abbrev pub is_retaining_refused : RetainedTopics → List ℕ → List ℕ → Bool
is_retaining_refused content topic payload = not (is_empty payload) && is_full_for content topic

-- the topics that the filter matches, with their retained publications (MQTT 3.3.1.3)
abbrev pub matching_entries : RetainedTopics → List ℕ → RetainedTopics
matching_entries content asked = filter (λ entry. is_match asked entry.0) content
