use Rattle.std.proofs.Common.{◌≡◌, ◌++◌}
use Rattle.std.specs.List.{flat_map}
use Rattle.session_base.specs.Form.{granted_subscription_bytes}
use Rattle.session.proofs.subscriptions.Subscriptions.write_each.Given as goal

abbrev pub invariant-loop-filter : goal.invariant-loop-filter
invariant-loop-filter l = l.bytes.items ++ flat_map granted_subscription_bytes l.filter-iterator ≡ l.initial.bytes.items ++ flat_map granted_subscription_bytes l.self
