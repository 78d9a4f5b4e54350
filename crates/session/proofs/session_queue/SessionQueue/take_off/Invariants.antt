-- Those that were taken off so far are the first.
use Rattle.std.proofs.Common.{◌≡◌, drop}
use Rattle.session.proofs.session_queue.SessionQueue.take_off.Given as goal

abbrev pub invariant-loop : goal.invariant-loop
invariant-loop l = record {
  waiting : l.self-inside.waiting.items ≡ drop l.counter l.fn.self.waiting;
  in_flight : l.self-inside.in_flight.entries ≡ l.fn.self.in_flight;
}
