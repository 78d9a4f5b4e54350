-- The numbers of a session's errors.
use Rattle.std.specs.Prelude.{ℕ}
use Rattle.session.specs.declared.error.EnqueueError.{EnqueueError}
use Rattle.session.specs.declared.error.EnqueueError.TheVariants.{QueueFull, Memory}

-- the number of each error, as in the table of refusals
abbrev pub enqueue_error_number : EnqueueError → ℕ
enqueue_error_number QueueFull = 15
enqueue_error_number Memory = 12
