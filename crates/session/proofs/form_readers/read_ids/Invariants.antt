use Rattle.std.proofs.Common.{◌≡◌, ◌-◌, []}
use Rattle.session_base.specs.Counted.{items_after}
use Rattle.session_base.specs.Form.{is_above}
use Rattle.packet_base.specs.Readers.{id_at}
use Rattle.session.proofs.form_readers.read_ids.Given as goal

abbrev pub invariant-loop : goal.invariant-loop
invariant-loop l =
    items_after is_above id_at (l.count - l.counter) l.read l.reader ≡ items_after is_above id_at l.count [] l.initial.reader
