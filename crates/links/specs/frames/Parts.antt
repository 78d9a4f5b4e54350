-- The parts in which a message goes over a stream.
use Rattle.std.specs.Prelude.{ℕ, zero, suc, ◌-◌, ◌/◌, List, ◌∷◌, ◌++◌, length, take, drop}
use Rattle.std.specs.Int.{w32, to_be_bytes}

-- the most bytes of a part
abbrev pub part_limit : ℕ
part_limit = 65536

-- the flag of a message's last part, and that of each other part
abbrev pub last_flag : ℕ
last_flag = 0

abbrev pub more_flag : ℕ
more_flag = 1

-- a part: its flag, its length in four bytes, its bytes
abbrev pub part : ℕ → List ℕ → List ℕ
part flag bytes = (flag ∷ to_be_bytes w32 (length bytes)) ++ bytes

-- this number of full parts, and then the last one
abbrev pub in_parts : ℕ → List ℕ → List ℕ
in_parts zero message = part last_flag message
in_parts (suc full) message =
    part more_flag (take part_limit message) ++ in_parts full (drop part_limit message)

-- the parts of a message: all but the last are full, and the last is empty only if the message is
abbrev pub parts_of : List ℕ → List ℕ
parts_of message = in_parts ((length message - 1) / part_limit) message
