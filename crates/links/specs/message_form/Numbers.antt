-- Numbers of eight bytes, the high one first.
use Rattle.std.specs.Prelude.{ℕ, ◌<◌, ◌^◌, List, Result, Ok}
use Rattle.std.specs.Int.{w64, to_be_bytes, from_be_bytes}
use Rattle.packet_base.specs.declared.stop.Stop.{Stop}
use Rattle.packet_base.specs.Readers.{◌>>=◌, front_at}

-- a number that eight bytes hold
abbrev pub IsWide : ℕ → Type 0
IsWide number = number < 2 ^ 64

-- its bytes
abbrev pub wide_number : ℕ → List ℕ
wide_number value = to_be_bytes w64 value

-- the number in the next eight bytes
unfoldable pub wide_number_at : List ℕ → Result (ℕ × List ℕ) Stop
wide_number_at bytes = do
  front ← front_at 8 bytes
  Ok (from_be_bytes w64 front.0, front.1)
