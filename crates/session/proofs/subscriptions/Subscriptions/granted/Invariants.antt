-- What matched so far goes into the rest.
use Rattle.std.proofs.Common.{◌≡◌}
use Rattle.session_base.specs.Subscriptions.{granted_qos}
use Rattle.session.specs.Inside.{greater_of}
use Rattle.session.proofs.subscriptions.Subscriptions.granted.Given as goal

abbrev pub invariant-loop-filter : goal.invariant-loop-filter
invariant-loop-filter l = granted_qos l.topic l.self ≡ greater_of l.best (granted_qos l.topic l.filter-iterator)
