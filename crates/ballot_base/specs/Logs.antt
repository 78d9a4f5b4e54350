-- A log with a snapshot in place of the places below its base.
use Rattle.std.specs.Prelude.{ℕ, ◌+◌, ◌-◌, List, [], ◌∷◌, ◌++◌, length, take, drop, slice_get}
use Rattle.std.specs.Prelude.{Option, None, nat_lt, if◌then◌else◌}

-- the bytes of the machine as it is at the base (none at base 0), and the commands from there on
pub record Log (C : Type 0) : Type 0 where
  pub base : ℕ
  pub snapshot : List ℕ
  pub rest : List C

-- a log with no place
abbrev pub empty_log : (C : Type 0) → Log C
empty_log C = record { base = 0; snapshot = []; rest = [] }

-- how many places a log has, counted from 0
abbrev pub places : {C : Type 0} → Log C → ℕ
places log = log.base + length log.rest

-- the command at a place, if it is kept
abbrev pub command_at : {C : Type 0} → Log C → ℕ → Option C
command_at log place = if nat_lt place log.base then None else slice_get log.rest (place - log.base)

-- the commands from one place up to another, as far as they are kept
abbrev pub part : {C : Type 0} → Log C → ℕ → ℕ → List C
part log from to = drop (from - log.base) (take (to - log.base) log.rest)

-- a log with a command appended
abbrev pub pushed : {C : Type 0} → Log C → C → Log C
pushed log command = record log { rest = log.rest ++ command ∷ [] }

-- a log without its last command
abbrev pub popped : {C : Type 0} → Log C → Log C
popped log = record log { rest = take (length log.rest - 1) log.rest }
