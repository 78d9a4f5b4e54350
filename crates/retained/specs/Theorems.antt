-- Theorems about what is retained, in the terms of MQTT 3.3.1.3; proved by `src/theorems.rt`.
use Rattle.std.specs.Prelude.{◌≡◌, ◌≤◌, ℕ, Bool, false, List, [], ◌∷◌, ◌++◌, length, reverse}
use Rattle.std.specs.Prelude.{Option, Some, None}
use Rattle.std.specs.List.{find}
use Rattle.std.specs.BTreeMap.{is_at}
use Rattle.std.specs.Cmp.Lexicographic.{slice_cmp}
use Rattle.std.specs.Ordering.{nat_cmp}
use Rattle.packet_base.specs.declared.qos.QoS.{QoS}
use Rattle.retained.specs.declared.retained_publication.RetainedPublication.{RetainedPublication}
use Rattle.retained.specs.Retained.{RetainedTopics, IsRising, publication_on, after_put, is_retaining_refused}
use Rattle.retained.specs.Retained.{max_topics}

-- a publication with RETAIN 1
pub record Put : Type 0 where
  pub topic : List ℕ
  pub qos : QoS
  pub payload : List ℕ

-- A store after a sequence of publications that it took, the last one at the end. A refused one
-- changes nothing and needs no case.
pub data After : List Put → RetainedTopics → Type 0 where
  -- no publication yet
  nothing : After [] []
  -- one more that is taken
  put : {puts : List Put} {content : RetainedTopics} (publication : Put) → After puts content
      → is_retaining_refused content publication.topic publication.payload ≡ false
      → After (puts ++ publication ∷ [])
      (after_put content publication.topic publication.qos publication.payload)

-- whether a publication is on this topic
abbrev pub is_on : List ℕ → Put → Bool
is_on topic publication = is_at (slice_cmp nat_cmp topic) publication.topic

-- the last publication on a topic
abbrev pub last_on : List ℕ → List Put → Option Put
last_on topic puts = find (is_on topic) (reverse puts)

-- what a publication leaves retained on its topic; nothing if its payload is empty
abbrev pub kept_of_payload : QoS → List ℕ → Option RetainedPublication
kept_of_payload qos [] = None
kept_of_payload qos (byte ∷ payload) = Some (record { qos = qos; payload = byte ∷ payload })

-- what the last publication, if there is one, leaves retained
abbrev pub kept_of : Option Put → Option RetainedPublication
kept_of (Some publication) = kept_of_payload publication.qos publication.payload
kept_of None = None

-- the retained publication of a topic is its last publication; there is none if that had no payload
abbrev pub LastIsRetained : Type 0
LastIsRetained = (puts : List Put) (content : RetainedTopics) → After puts content
    → (topic : List ℕ) → publication_on topic content ≡ kept_of (last_on topic puts)

-- the topics are in ascending order, each once, and at most 16,384
abbrev pub StaysInBounds : Type 0
StaysInBounds = (puts : List Put) (content : RetainedTopics) → After puts content
    → IsRising content × (length content ≤ max_topics)
