use Rattle.std.proofs.Common.{refl}
use Rattle.broker_rows.proofs.SessionAnswers.{received_gives}
use Rattle.broker_rows.proofs.session_handshakes.received.Goals as goal

pub returns : goal.returns
returns c =
    received_gives _ _ _ _ _ _ _ c.in_ok-id.ensures c.is_received.ensures c.in_ok-yes_or_no.ensures
    c.in_ok-only.ensures refl
