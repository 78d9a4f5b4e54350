-- Definitions for private functions.
use Rattle.std.specs.Prelude.{ℕ, ◌+◌, ◌^◌, List, Result}
use Rattle.packet_base.specs.declared.stop.Stop.{Stop}
use Rattle.packet_base.specs.Readers.{◌>>=◌, text_of}
use Rattle.packet_base.specs.TopicFields.{topic_of, filter_of}

-- what a Remaining Length is below if at most this many bytes follow the next one
abbrev pub length_limit : ℕ → ℕ
length_limit follow = 128 ^ (follow + 1)

-- bytes as a text and then as a Topic Name
abbrev pub name_of : List ℕ → Result (List ℕ) Stop
name_of bytes = text_of bytes >>= topic_of

-- bytes as a text and then as a Topic Filter
abbrev pub pattern_of : List ℕ → Result (List ℕ) Stop
pattern_of bytes = text_of bytes >>= filter_of
