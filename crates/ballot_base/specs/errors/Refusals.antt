-- The numbers of the refusals, as in the table of refusals.
use Rattle.std.specs.Prelude.{ℕ}
use Rattle.ballot_base.specs.declared.errors.error.OpeningError.{OpeningError}
use Rattle.ballot_base.specs.declared.errors.error.ProposeError.{ProposeError}
use Rattle.ballot_base.specs.declared.errors.error.OpeningError.TheVariants.{BadMembers}
use Rattle.ballot_base.specs.declared.errors.error.OpeningError.TheVariants as opening
use Rattle.ballot_base.specs.declared.errors.error.ProposeError.TheVariants.{NotActive, LogFull, Memory, Halted}

-- a replica that was not opened
abbrev pub opening_number : OpeningError → ℕ
opening_number BadMembers = 20
opening_number opening.Memory = 12

-- a proposal that was not taken
abbrev pub propose_number : ProposeError → ℕ
propose_number NotActive = 18
propose_number LogFull = 19
propose_number Memory = 12
propose_number Halted = 17
