-- UNSUBSCRIBE (MQTT 3.10).
use Rattle.std.specs.Prelude.{ℕ, IsTrue, List, ◌++◌, Result, Ok}
use Rattle.std.specs.List.{flat_map, All}
use Rattle.topics.specs.Text.{is_filter}
use Rattle.packet_base.specs.declared.stop.Stop.{Stop}
use Rattle.packet_base.specs.Spelling.{number, text, IsId}
use Rattle.packet_base.specs.Readers.{◌>>=◌, id_at}
use Rattle.packet_base.specs.TopicFields.{filter_at}
use Rattle.packet_base.specs.Lists.{list_of}
use Rattle.packet.specs.declared.unsubscribe.Unsubscribe.{Unsubscribe}

-- identifier, filters
abbrev pub unsubscribe_body : Unsubscribe → List ℕ
unsubscribe_body unsubscribe = number unsubscribe.id ++ flat_map text unsubscribe.filters

-- each field is in its range
abbrev pub FitsUnsubscribe : Unsubscribe → Type 0
FitsUnsubscribe unsubscribe =
    IsId unsubscribe.id × All (λ filter. IsTrue (is_filter filter)) unsubscribe.filters

-- a body, or its first fault
unfoldable pub unsubscribe_of : List ℕ → Result Unsubscribe Stop
unsubscribe_of body = do
  id ← id_at body
  filters ← list_of filter_at id.1
  Ok (record { id = id.0; filters = filters })
