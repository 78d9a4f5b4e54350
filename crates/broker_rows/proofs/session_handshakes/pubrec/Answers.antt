use Rattle.broker_rows.proofs.SessionAnswers.{pubrec_gives}
use Rattle.broker_rows.proofs.session_handshakes.pubrec.Goals as goal

pub returns : goal.returns
returns c =
    pubrec_gives _ _ _ _ _ _ _ c.in_ok-id.ensures c.in_ok-out.ensures.sends c.as_slice.ensures.value
    c.in_ok-packet_answers.ensures c.in_ok-out.ensures.state
