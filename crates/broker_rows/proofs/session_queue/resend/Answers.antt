use Rattle.std.proofs.Common.{refl}
use Rattle.broker_rows.proofs.SessionAnswers.{resend_gives}
use Rattle.broker_rows.proofs.session_queue.resend.Goals as goal

pub returns : goal.returns
returns c =
    resend_gives _ _ _ _ _ c.in_ok-out.ensures c.as_slice.ensures.value c.in_ok-packet_answers.ensures refl
