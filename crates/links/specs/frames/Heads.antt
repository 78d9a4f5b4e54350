-- The head of a part: a flag of one byte, and a length of four.
use Rattle.std.specs.Prelude.{ℕ, ◌≤◌, Bool, ◌==◌, nat_lt, if◌then◌else◌, List, [], ◌∷◌, length, take, Option, Some, None}
use Rattle.std.specs.Int.{w32, from_be_bytes}
use Rattle.links.specs.declared.frames.head.Head.{Head}
use Rattle.links.specs.declared.frames.head.Head.TheVariants.{Part, Unfinished, Fault}
use Rattle.links.specs.declared.frames.error.PartFault.TheVariants.{Flag, Length, TooLarge}
use Rattle.links.specs.frames.Parts.{part_limit, more_flag}

-- a length, most significant byte first
abbrev pub len_at : List ℕ → Option ℕ
len_at bytes = if nat_lt (length bytes) 4 then None else Some (from_be_bytes w32 (take 4 bytes))

-- a part has at most 65,536 bytes, and no more than its message takes
abbrev pub sized : ℕ → Bool → ℕ → Head
sized room more len =
    if nat_lt part_limit len then Fault Length else
    if nat_lt room len then Fault TooLarge else Part more len

abbrev pub head_by : ℕ → Bool → Option ℕ → Head
head_by room more None = Unfinished
head_by room more (Some len) = sized room more len

-- what a stream says where a part begins, if its message takes `room` more bytes; the first fault
-- counts, and none waits for a byte that it does not need
abbrev pub head_of : ℕ → List ℕ → Head
head_of room [] = Unfinished
head_of room (flag ∷ bytes) =
    if nat_lt more_flag flag then Fault Flag else
    head_by room (flag == more_flag) (len_at bytes)

-- a part's head is there, and its length within the bounds
abbrev pub IsWithin : ℕ → List ℕ → Head → Type 0
IsWithin room stream (Part more len) =
    (5 ≤ length stream) × (len ≤ part_limit) × (len ≤ room)
IsWithin room stream Unfinished = Unit {0}
IsWithin room stream (Fault fault) = Unit {0}
