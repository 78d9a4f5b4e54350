-- Packets that a log may hold, and why others are refused.
use Rattle.std.specs.Prelude.{ℕ, ◌≤◌, length}
use Rattle.packet.specs.declared.packet.Packet.{Packet}
use Rattle.packet.specs.Spelling.{IsListed, body, max_body}
use Rattle.broker_spec.specs.declared.sized_packet.Unspellable.{Unspellable}
use Rattle.broker_spec.specs.declared.sized_packet.Unspellable.TheVariants.{TooLarge, Shape}

-- a packet that can be encoded: none of its lists is empty, and its body is within the limit
abbrev pub IsSized : Packet → Type 0
IsSized packet = IsListed packet × (length (body packet) ≤ max_body)

-- the number of each error, as in the table of refusals
abbrev pub unspellable_number : Unspellable → ℕ
unspellable_number TooLarge = 4
unspellable_number Shape = 10
