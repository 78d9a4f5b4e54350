use Rattle.broker_rows.proofs.SessionAnswers.{pubcomp_gives}
use Rattle.broker_rows.proofs.session_handshakes.pubcomp.Goals as goal

pub returns : goal.returns
returns c = pubcomp_gives _ _ _ _ _ c.in_ok-id.ensures c.new.ensures.items c.on_pubcomp.ensures
