-- The machine that adds numbers modulo 2^64.
use Rattle.std.specs.Prelude.{ℕ, ◌+◌, ◌%◌, ◌^◌, ◌<◌, ◌==◌, List, [], ◌∷◌, length, Option, Some}
use Rattle.std.specs.Prelude.{None, Bool, true, false, if◌then◌else◌}
use Rattle.std.specs.Int.{w64, to_be_bytes, from_be_bytes}
use Rattle.machine.specs.Machine.{Needs, Rules}
use Rattle.machine.specs.declared.tally.Tally.{Tally}
use Rattle.machine.specs.declared.tally.TallyCommand.{TallyCommand}
use Rattle.machine.specs.declared.tally.TallyCommand.TheVariants.{Add, Start}

-- the total after a command
abbrev pub total_after : ℕ → TallyCommand → ℕ
total_after total (Add number) = (total + number) % 2 ^ 64
total_after total (Start ballot) = total

-- the outputs of a command: the new total, and nothing at the start of a ballot
abbrev pub totals_given : ℕ → TallyCommand → List ℕ
totals_given total (Add number) = total_after total (Add number) ∷ []
totals_given total (Start ballot) = []

-- a number in a command has 64 bits
abbrev pub IsTallyCommand : TallyCommand → Type 0
IsTallyCommand (Add number) = number < 2 ^ 64
IsTallyCommand (Start ballot) = ballot < 2 ^ 64

-- a total as its eight bytes, the most significant first
abbrev pub total_bytes : ℕ → List ℕ
total_bytes total = to_be_bytes w64 total

-- the tally that is frozen to these eight bytes; no other bytes thaw
abbrev pub tally_of : List ℕ → Option Tally
tally_of bytes =
    if length bytes == 8 then Some (record { total = from_be_bytes w64 bytes }) else None

-- the rules of a tally: it begins at 0
abbrev pub tally_rules : Rules Tally TallyCommand ℕ
tally_rules =
    record {
      opening = record { total = 0 };
      start_of = Start;
      after = λ tally command. record { total = total_after tally.total command };
      gives = λ tally command. totals_given tally.total command;
      frozen = λ tally. total_bytes tally.total;
      thawed = tally_of;
    }

-- a number that is added is output, which takes memory
abbrev pub outputs_some : TallyCommand → Bool
outputs_some (Add number) = true
outputs_some (Start ballot) = false

-- a tally needs memory for its outputs alone
abbrev pub tally_needs : Needs Tally TallyCommand
tally_needs =
    record {
      to_open = false;
      to_copy = λ command. false;
      to_apply = λ tally command. outputs_some command;
      to_thaw = λ bytes. false;
    }
