-- Numbers by a fixed rule: a linear congruence modulo 2^64, with the two constants of Knuth's MMIX.
use Rattle.std.specs.Prelude.{ℕ, ◌+◌, ◌*◌, ◌/◌, ◌%◌, ◌^◌}

-- the state that follows a state
abbrev pub next_state : ℕ → ℕ
next_state state = (state * 6364136223846793005 % 2 ^ 64 + 1442695040888963407) % 2 ^ 64

-- the number of a state: its upper 31 bits
abbrev pub number_of : ℕ → ℕ
number_of state = state / 2 ^ 33
