-- Addresses: a host, a colon and a port.
use Rattle.std.specs.Prelude.{◌<◌, ◌^◌, ℕ, List}
use Rattle.std.specs.Str.Parse.{IsNumeral, digits_value, without_leading_plus}

-- a decimal number of 16 bits; a plus may come first
abbrev pub IsPort : List ℕ → Type 0
IsPort text = IsNumeral 10 (without_leading_plus text)
    × (digits_value 10 (without_leading_plus text) < 2 ^ 16)
