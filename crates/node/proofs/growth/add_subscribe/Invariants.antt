use Rattle.std.proofs.Common.{◌≡◌, ◌+◌, length, take}
use Rattle.std.specs.Prelude.{sum_by}
use Rattle.packet.specs.declared.subscribe.Subscription.{Subscription}
use Rattle.node.specs.Growth.{saturated}
use Rattle.node.proofs.growth.add_subscribe.Given as goal

abbrev pub invariant-loop-subscription : goal.invariant-loop-subscription
invariant-loop-subscription l =
    l.bytes
    ≡ saturated (l.initial.bytes + sum_by (λ (subscription : Subscription). length subscription.filter) (take l.subscription-index l.subscriptions))
