use Rattle.std.proofs.Common.{◌≡◌, ◌++◌}
use Rattle.broker_spec.specs.Answers.{codes_of}
use Rattle.broker.proofs.tables.subscribe.codes_of.Given as goal

abbrev pub invariant-loop-subscription : goal.invariant-loop-subscription
invariant-loop-subscription l =
    l.codes.items ++ codes_of l.subscription-iterator.a.rest.now l.subscription-iterator.b.rest.now ≡ codes_of l.filters l.which
