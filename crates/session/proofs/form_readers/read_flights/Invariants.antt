use Rattle.std.proofs.Common.{◌≡◌, ◌-◌, []}
use Rattle.session_base.specs.Counted.{items_after}
use Rattle.session_base.specs.Form.{may_follow, flight_at}
use Rattle.session.proofs.form_readers.read_flights.Given as goal

abbrev pub invariant-loop : goal.invariant-loop
invariant-loop l =
    items_after may_follow flight_at (l.count - l.counter) l.read.entries l.reader ≡ items_after may_follow flight_at l.count [] l.initial.reader
