use Rattle.std.proofs.Common.{◌≡◌, ◌-◌, []}
use Rattle.session_base.specs.Counted.{items_after}
use Rattle.broker_base.specs.form.Form.{row_at}
use Rattle.broker_base.specs.form.Follows.{row_follows}
use Rattle.broker.specs.Inside.{AreOwned}
use Rattle.broker.proofs.rows.read_rows.Given as goal

abbrev pub invariant-loop : goal.invariant-loop
invariant-loop l =
    (items_after row_follows (row_at l.window) (l.count - l.counter) l.rows.sessions.entries l.reader
    ≡ items_after row_follows (row_at l.window) l.count [] l.initial.reader)
    × AreOwned l.rows
