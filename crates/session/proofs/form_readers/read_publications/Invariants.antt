use Rattle.std.proofs.Common.{◌≡◌, ◌-◌, []}
use Rattle.session_base.specs.Counted.{items_after}
use Rattle.session_base.specs.Form.{anything, waiting_at}
use Rattle.session.proofs.form_readers.read_publications.Given as goal

abbrev pub invariant-loop : goal.invariant-loop
invariant-loop l =
    items_after anything waiting_at (l.count - l.counter) l.read.items l.reader ≡ items_after anything waiting_at l.count [] l.initial.reader
