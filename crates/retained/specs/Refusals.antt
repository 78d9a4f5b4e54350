-- The numbers of the store's errors.
use Rattle.std.specs.Prelude.{ℕ}
use Rattle.retained.specs.declared.error.RetainedError.{RetainedError}
use Rattle.retained.specs.declared.error.RetainedError.TheVariants.{RetainedFull, Memory}

-- the number of each error, as in the table of refusals
abbrev pub retained_error_number : RetainedError → ℕ
retained_error_number RetainedFull = 16
retained_error_number Memory = 12
