use Rattle.session_base.proofs.AnswersOfClients.{released_last}
use Rattle.session_base.proofs.OrderInFlight.{released_first, resends}
use Rattle.session_base.proofs.theorems.resend_keeps_the_order.Goals as goal

pub returns : goal.returns
returns c = record { last = released_last; first = released_first; order = resends }
