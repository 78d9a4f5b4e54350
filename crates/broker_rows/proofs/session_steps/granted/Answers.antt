use Rattle.std.proofs.Common.{refl}
use Rattle.broker_rows.proofs.SessionAnswers.{granted_gives}
use Rattle.broker_rows.proofs.session_steps.granted.Goals as goal

pub returns : goal.returns
returns c =
    granted_gives _ _ _ _ _ _ _ c.in_ok-topic.ensures c.granted.ensures c.in_ok-granted_fields.ensures
    c.in_ok-only.ensures refl
