use Rattle.std.proofs.Common.{Ok, ap}
use Rattle.broker_rows.proofs.SessionAnswers.{again_gives, first_gives, not_first}
use Rattle.broker_rows.proofs.session_handshakes.publish.Goals as goal

pub returns-in_ok-only-in-Ok-First : goal.returns-in_ok-only-in-Ok-First
returns-in_ok-only-in-Ok-First c =
    first_gives _ _ _ _ _ _ c.in_ok-id.ensures c.in_ok-word-in-Ok-First.ensures c.in_ok-only-in-Ok-First.ensures
    (c.in-Ok-First.ensures.first (ap Ok c.in-Ok-First.field-0-is))

pub returns-in_ok-only-in-Ok-Again : goal.returns-in_ok-only-in-Ok-Again
returns-in_ok-only-in-Ok-Again c =
    again_gives _ _ _ _ _ _ c.in_ok-id.ensures (c.in-Ok-Again.ensures.again.0 (ap Ok c.in-Ok-Again.field-0-is))
    c.in_ok-word-in-Ok-Again.ensures c.in_ok-only-in-Ok-Again.ensures
    (c.in-Ok-Again.ensures.same (not_first _ (ap Ok c.in-Ok-Again.field-0-is)))
