use Rattle.std.proofs.Common.{◌≡◌}
use Rattle.std.specs.Prelude.{map}
use Rattle.subs_base.specs.ListIndex.{content_of}
use Rattle.broker_spec.specs.Subscriptions.{as_granted, granted_of}
use Rattle.broker_base.specs.rows.Indexed.{all_set}
use Rattle.broker.proofs.tables.subscribe.set_all.Given as goal

abbrev pub invariant-loop-subscription : goal.invariant-loop-subscription
invariant-loop-subscription l =
    all_set l.client (map as_granted (granted_of l.subscription-iterator.a.rest.now l.subscription-iterator.b.rest.now)) (content_of l.index)
    ≡ all_set l.client (map as_granted (granted_of l.filters l.which)) (content_of l.fn.index)
