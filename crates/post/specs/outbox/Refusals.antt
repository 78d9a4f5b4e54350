-- The numbers of the refusals, as in the table of refusals.
use Rattle.std.specs.Prelude.{ℕ}
use Rattle.master.specs.Refusals.{assign_number}
use Rattle.post.specs.declared.outbox.order_error.OrderError.{OrderError}
use Rattle.post.specs.declared.outbox.order_error.OrderError.TheVariants.{Refused, Memory}

-- an order that was not done
abbrev pub order_number : OrderError → ℕ
order_number (Refused error) = assign_number error
order_number Memory = 12
