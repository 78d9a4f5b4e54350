use Rattle.broker_rows.proofs.SessionAnswers.{puback_gives}
use Rattle.broker_rows.proofs.session_handshakes.puback.Goals as goal

pub returns : goal.returns
returns c = puback_gives _ _ _ _ _ c.in_ok-id.ensures c.new.ensures.items c.on_puback.ensures
