-- Topic Names and Topic Filters as fields of a packet (MQTT 4.7).
use Rattle.std.specs.Prelude.{ℕ, List, Result, Ok, Option, Some, None}
use Rattle.topics.specs.Text.{topic_fault, filter_fault}
use Rattle.topics.specs.declared.malformed.MalformedKind.{MalformedKind}
use Rattle.packet_base.specs.declared.stop.Stop.{Stop}
use Rattle.packet_base.specs.Readers.{◌>>=◌, ◌>>◌, malformed, text_at}

-- no fault, or the malformed kind of the first one
abbrev pub faultless : Option MalformedKind → Result (Unit {0}) Stop
faultless None = Ok tt
faultless (Some kind) = malformed kind

-- a text as a Topic Name (MQTT 4.7)
abbrev pub topic_of : List ℕ → Result (List ℕ) Stop
topic_of text = do
  faultless (topic_fault text)
  Ok text

-- a Topic Name with its length before it
unfoldable pub topic_at : List ℕ → Result (List ℕ × List ℕ) Stop
topic_at bytes = do
  text ← text_at bytes
  topic ← topic_of text.0
  Ok (topic, text.1)

-- a text as a Topic Filter (MQTT 4.7.1)
abbrev pub filter_of : List ℕ → Result (List ℕ) Stop
filter_of text = do
  faultless (filter_fault text)
  Ok text

-- a Topic Filter with its length before it
unfoldable pub filter_at : List ℕ → Result (List ℕ × List ℕ) Stop
filter_at bytes = do
  text ← text_at bytes
  filter ← filter_of text.0
  Ok (filter, text.1)
