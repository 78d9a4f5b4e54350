-- Steps about texts, and their answers (MQTT 1.5.3, 3.1.3.1, 4.7).
use Rattle.std.specs.Prelude.{◌≡◌, List, [], ◌∷◌, codes, Option, Some, None}
use Rattle.rows.specs.Fields.{Text}
use Rattle.rows.specs.Playing.{Answers}
use Rattle.topics.specs.declared.malformed.MalformedKind.{MalformedKind}
use Rattle.topics.specs.Text.{topic_fault, filter_fault, named_topic}
use Rattle.topics.specs.Matching.{is_match}
use Rattle.packet_base.specs.ClientId.{client_fault}
use Rattle.rows.specs.Answers.{word, yes_or_no}
use Rattle.packet_rows.specs.AnswerFields.{refused}

-- a text without a fault is taken, and another refused by its first one
abbrev pub taken : Option MalformedKind → List Text
taken None = word (codes "taken")
taken (Some kind) = refused kind

-- the name that a filter is, if it is one
abbrev pub named : Option Text → List Text
named None = word (codes "none")
named (Some name) = codes "name" ∷ name ∷ []

-- this answer, unless there is a fault
abbrev pub unless : Option MalformedKind → List Text → List Text
unless None answer = answer
unless (Some kind) answer = refused kind

-- a step, and its answer
pub data TopicStep : List Text → List Text → Type 0 where
  -- `name "a/b"`
  name : (text : Text) → TopicStep (codes "name" ∷ text ∷ []) (taken (topic_fault text))
  -- `filter "a/+"`
  filter : (text : Text) → TopicStep (codes "filter" ∷ text ∷ []) (taken (filter_fault text))
  -- `client "a"`
  client : (text : Text) → TopicStep (codes "client" ∷ text ∷ []) (taken (client_fault text))
  -- `bare "a/b"`
  bare : (text : Text) → TopicStep (codes "bare" ∷ text ∷ [])
      (unless (filter_fault text) (named (named_topic text)))
  -- `match "a/+" "a/b"`
  matches : (filter name : Text) → TopicStep (codes "match" ∷ filter ∷ name ∷ [])
      (unless (filter_fault filter) (unless (topic_fault name) (yes_or_no (is_match filter name))))

-- the only answer of a step
abbrev pub TopicDoes : List Text → Answers → Type 0
TopicDoes step answers = (answer : List Text) × TopicStep step answer × (answers ≡ answer ∷ [])
