-- The number of a refusal, as in the table of refusals.
use Rattle.std.specs.Prelude.{ℕ}
use Rattle.world_pipes.specs.declared.events.escape_error.EscapeError.{EscapeError}
use Rattle.world_pipes.specs.declared.events.escape_error.EscapeError.TheVariants as errors

-- a recovery that is not returned
abbrev pub escape_number : EscapeError → ℕ
escape_number errors.Idle = 24
escape_number errors.Memory = 12
