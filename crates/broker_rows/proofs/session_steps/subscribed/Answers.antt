use Rattle.std.proofs.Common.{refl}
use Rattle.broker_rows.proofs.SessionAnswers.{subscribed_gives}
use Rattle.broker_rows.proofs.session_steps.subscribed.Goals as goal

pub returns : goal.returns
returns c =
    subscribed_gives _ _ _ _ _ _ _ c.in_ok-filter.ensures c.has_subscription.ensures
    c.in_ok-yes_or_no.ensures c.in_ok-only.ensures refl
