use Rattle.broker_rows.proofs.SessionAnswers.{send_within_gives}
use Rattle.broker_rows.proofs.session_queue.send_within.Goals as goal

pub returns : goal.returns
returns c =
    send_within_gives _ _ _ _ _ _ _ c.in_ok-window.ensures.number c.in_ok-out.ensures.sends
    c.as_slice.ensures.value c.in_ok-packet_answers.ensures c.in_ok-out.ensures.state
