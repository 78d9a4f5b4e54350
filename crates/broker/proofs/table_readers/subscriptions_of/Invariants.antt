-- Those so far and those that are left are all.
use Rattle.std.proofs.Common.{◌≡◌, ◌++◌}
use Rattle.broker.proofs.table_readers.subscriptions_of.Given as goal

abbrev pub invariant-loop-filter : goal.invariant-loop-filter
invariant-loop-filter l = l.granted.items ++ l.filter-iterator ≡ l.session.subscriptions
