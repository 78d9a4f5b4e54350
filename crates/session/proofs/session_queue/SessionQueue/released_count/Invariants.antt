-- The released ones so far are counted, and are no more than there are.
use Rattle.std.proofs.Common.{◌≡◌, ◌≤◌, ◌+◌, length, filter}
use Rattle.session_base.specs.Queue.{is_released}
use Rattle.session.proofs.session_queue.SessionQueue.released_count.Given as goal

abbrev pub invariant-loop-awaits : goal.invariant-loop-awaits
invariant-loop-awaits l = record {
  counted : l.many + length (filter is_released l.awaits-iterator) ≡ length (filter is_released l.self.in_flight);
  few : l.many + length l.awaits-iterator ≤ length l.self.in_flight;
}
