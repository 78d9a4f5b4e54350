use Rattle.std.proofs.Common.{◌≡◌, ◌-◌, []}
use Rattle.session_base.specs.Counted.{items_after}
use Rattle.session_base.specs.Form.{is_new_filter, granted_subscription_at}
use Rattle.session.proofs.form_readers.read_filters.Given as goal

abbrev pub invariant-loop : goal.invariant-loop
invariant-loop l =
    items_after is_new_filter granted_subscription_at (l.count - l.counter) l.read l.reader ≡ items_after is_new_filter granted_subscription_at l.count [] l.initial.reader
