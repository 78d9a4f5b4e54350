-- Lists that fill the rest of a body.
use Rattle.std.specs.Prelude.{Bool, is_ok, ℕ, zero, suc, ◌==◌, not, if◌then◌else◌, List, [], ◌∷◌}
use Rattle.std.specs.Prelude.{length, Result, Ok}
use Rattle.topics.specs.declared.malformed.MalformedKind.TheVariants as kinds
use Rattle.packet_base.specs.declared.stop.Stop.{Stop}
use Rattle.packet_base.specs.declared.stop.Stop.TheVariants as stops
use Rattle.packet_base.specs.Readers.{◌>>=◌, ◌>>◌, check, id_at}

-- reading an item: its value, and the bytes after it
abbrev pub ItemAt : Type 0 → Type 0
ItemAt A = List ℕ → Result (A × List ℕ) Stop

-- at most this many items in sequence, up to the end of the bytes
unfoldable pub items_of : {A : Type 0} → ItemAt A → ℕ → List ℕ → Result (List A) Stop
items_of item zero bytes = Ok []
items_of item (suc most) bytes =
    if length bytes == 0 then Ok [] else
    item bytes >>= (λ first.
    items_of item most first.1 >>= (λ others. Ok (first.0 ∷ others)))

-- all items up to the end of the bytes, each of at least one byte
abbrev pub items_at : {A : Type 0} → ItemAt A → List ℕ → Result (List A) Stop
items_at item bytes = items_of item (length bytes) bytes

-- all items up to the end of the bytes, at least one (MQTT 3.8.3, 3.9.3, 3.10.3)
abbrev pub list_of : {A : Type 0} → ItemAt A → List ℕ → Result (List A) Stop
list_of item bytes = do
  items ← items_at item bytes
  check (not (length items == 0)) (stops.Malformed kinds.Shape)
  Ok items

-- whether an identifier is at the front, with an item without a fault after it
abbrev pub begins_list : {A : Type 0} → ItemAt A → List ℕ → Bool
begins_list item body = is_ok (id_at body >>= (λ id. item id.1))
