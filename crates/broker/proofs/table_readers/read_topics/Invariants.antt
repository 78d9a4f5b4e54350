use Rattle.std.proofs.Common.{◌≡◌, ◌-◌, [], length}
use Rattle.session_base.specs.Counted.{items_after}
use Rattle.broker_base.specs.form.Form.{retained_at}
use Rattle.broker_base.specs.form.Follows.{topic_follows}
use Rattle.broker.proofs.table_readers.read_topics.Given as goal

abbrev pub invariant-loop : goal.invariant-loop
invariant-loop l =
    (items_after topic_follows retained_at (l.count - l.counter) l.retained l.reader
    ≡ items_after topic_follows retained_at l.count [] l.initial.reader)
    × (length l.retained ≡ l.counter)
