use Rattle.std.proofs.Common.{◌≡◌}
use Rattle.std.specs.Prelude.{drop}
use Rattle.session_base.specs.Subscriptions.{without_filters}
use Rattle.session_base.specs.Session.{with_granted}
use Rattle.broker.proofs.tables.unsubscribe.unsubscribe_all.Given as goal

abbrev pub invariant-loop-filter : goal.invariant-loop-filter
invariant-loop-filter l =
    with_granted (without_filters (drop l.filter-index l.filters) l.session.subscriptions) l.session
    ≡ with_granted (without_filters l.filters l.fn.session.subscriptions) l.fn.session
