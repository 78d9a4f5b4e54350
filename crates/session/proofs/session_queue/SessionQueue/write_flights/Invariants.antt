use Rattle.std.proofs.Common.{◌≡◌, ◌++◌}
use Rattle.std.specs.List.{flat_map, AllByRecursion}
use Rattle.session_base.specs.Form.{flight_bytes}
use Rattle.session.specs.Inside.{AreWritable}
use Rattle.session.proofs.session_queue.SessionQueue.write_flights.Given as goal

abbrev pub invariant-loop-id : goal.invariant-loop-id
invariant-loop-id l =
    (l.bytes.items ++ flat_map flight_bytes l.id-iterator ≡ l.initial.bytes.items ++ flat_map flight_bytes l.self.in_flight)
    × AllByRecursion AreWritable l.id-iterator
