-- The laws of a machine, for a tally.
use Rattle.std.proofs.Common.{◌≡◌, ℕ, ◌^◌, ◌<◌, Some, rules}
use Rattle.std.proofs.lemmas.Nat.{from_be_bytes-to_be_bytes_8}
use Rattle.machine.specs.declared.tally.TallyCommand.{TallyCommand}
use Rattle.machine.specs.declared.tally.TallyCommand.TheVariants.{Add, Start}
use Rattle.machine.specs.Tally.{total_after, total_bytes, tally_of}

-- the opening total is below 2^64
pub IsTotal-opening : 0 < 2 ^ 64
IsTotal-opening = search rules

-- a total below 2^64 stays so
pub IsTotal-after : (total : ℕ) (command : TallyCommand) →
    total < 2 ^ 64 → total_after total command < 2 ^ 64
IsTotal-after total (Add number) below = search rules
IsTotal-after total (Start ballot) below = below

-- a frozen total is thawed as that total
pub tally_of-bytes_of : (total : ℕ) →
    total < 2 ^ 64 → tally_of (total_bytes total) ≡ Some (record { total = total })
tally_of-bytes_of total below = rw (from_be_bytes-to_be_bytes_8 total below)
