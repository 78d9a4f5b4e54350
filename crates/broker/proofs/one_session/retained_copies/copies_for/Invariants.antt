use Rattle.std.proofs.Common.{◌≡◌, ◌++◌}
use Rattle.std.specs.Prelude.{map}
use Rattle.broker_spec.specs.Entries.{retained_copy, copies_for}
use Rattle.broker.proofs.one_session.retained_copies.copies_for.Given as goal

abbrev pub invariant-loop-topic : goal.invariant-loop-topic
invariant-loop-topic l =
    l.copies.items ++ map (retained_copy l.subscription.qos) l.topic-iterator.rest.items ≡ copies_for l.retained l.subscription
