-- Client Identifiers as bytes, and the first fault of a text (MQTT 1.5.3, 3.1.3.1).
use Rattle.std.specs.Prelude.{ℕ, Bool, not, ◌&&◌, nat_lt, nat_le, if◌then◌else◌, List, length, Option, Some}
use Rattle.std.specs.Prelude.{None, is_none}
use Rattle.std.specs.Str.{is_utf8}
use Rattle.topics.specs.Text.{contains_byte}
use Rattle.topics.specs.declared.malformed.MalformedKind.{MalformedKind}
use Rattle.topics.specs.declared.malformed.MalformedKind.TheVariants as kinds
use Rattle.packet_base.specs.declared.client_id.TheConstants.{MAX_CLIENT_BYTES}

-- 1 to 64 bytes, this broker's own limit
abbrev pub has_client_length : List ℕ → Bool
has_client_length text = nat_lt 0 (length text) && nat_le (length text) MAX_CLIENT_BYTES

-- the first fault of a text as a Client Identifier
abbrev pub client_fault : List ℕ → Option MalformedKind
client_fault text =
    if not (has_client_length text) then Some kinds.Identifier else
    if contains_byte 0 text then Some kinds.Text else None

-- bytes that a `ClientId` may hold
abbrev pub is_client : List ℕ → Bool
is_client bytes = is_utf8 bytes && is_none (client_fault bytes)
