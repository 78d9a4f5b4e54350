-- What was granted so far, and what is still to be decided, make the whole.
use Rattle.std.proofs.Common.{◌≡◌, ◌++◌}
use Rattle.std.specs.Prelude.{drop}
use Rattle.broker_spec.specs.Commands.{usual_limits}
use Rattle.broker_base.specs.rows.CopyTheorems.{granted_in_turn, subscribed_in_turn, sent_in_turn}
use Rattle.broker.proofs.one_session.grants.grant_all.Given as goal

abbrev pub invariant-loop-subscription : goal.invariant-loop-subscription
invariant-loop-subscription l =
    (l.which.items ++ granted_in_turn usual_limits l.window l.retained l.session (drop l.subscription-index l.filters)
    ≡ granted_in_turn usual_limits l.window l.retained l.fn.session l.filters)
    × (subscribed_in_turn usual_limits l.window l.retained l.session (drop l.subscription-index l.filters)
    ≡ subscribed_in_turn usual_limits l.window l.retained l.fn.session l.filters)
    × (l.sent.items ++ sent_in_turn usual_limits l.window l.retained l.session (drop l.subscription-index l.filters)
    ≡ l.fn.sent.items ++ sent_in_turn usual_limits l.window l.retained l.fn.session l.filters)
