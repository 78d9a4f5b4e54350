use Rattle.broker_rows.proofs.SessionAnswers.{pubrel_gives}
use Rattle.broker_rows.proofs.session_handshakes.pubrel.Goals as goal

pub returns : goal.returns
returns c = pubrel_gives _ _ _ _ _ c.in_ok-id.ensures c.new.ensures.items c.release.ensures
