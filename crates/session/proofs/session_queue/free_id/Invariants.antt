use Rattle.std.proofs.Common.{◌≡◌, ℕ, ◌+◌, suc, length}
use Rattle.session_base.specs.Identifiers.{least_free, free_from}
use Rattle.session_base.specs.Queue.{ids_of}
use Rattle.session.proofs.session_queue.free_id.Given as goal

abbrev pub invariant-loop : goal.invariant-loop
invariant-loop l =
    (l.number ≡ suc l.counter) × ((left : ℕ) × (left + l.counter ≡ length l.in_flight.entries)
    × (free_from left l.number (ids_of l.in_flight.entries) ≡ least_free (ids_of l.in_flight.entries)))
