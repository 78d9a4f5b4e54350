-- After which ticks a node's log is cut.
use Rattle.std.specs.Prelude.{ℕ, ◌*◌, ◌%◌, Bool, ◌==◌}
use Rattle.node.specs.declared.cut_times.TheConstants.{TICKS_APART, TICKS_A_CUT}

-- after every 50th tick; the first cuts of nodes with neighbouring numbers are seven ticks apart
abbrev pub cuts_after : ℕ → ℕ → Bool
cuts_after number ticks = ticks % TICKS_A_CUT == number * TICKS_APART % TICKS_A_CUT
