-- The numbers of the refusals, as in the table of refusals.
use Rattle.std.specs.Prelude.{ℕ}
use Rattle.master.specs.declared.error.AssignError.{AssignError}
use Rattle.master.specs.declared.error.AssignError.TheVariants.{BadMembers, BallotsSpent}

-- a ballot that was not given
abbrev pub assign_number : AssignError → ℕ
assign_number BadMembers = 20
assign_number BallotsSpent = 21
