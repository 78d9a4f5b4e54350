use Rattle.ballot_base.proofs.SendsJoin.{Sends-pushed}
use Rattle.ballot_base.proofs.messages_sent.send.Goals as goal

pub returns : goal.returns
returns g c = rw c.is_ok.ensures.value (Sends-pushed _ _ _ _ _ c.push.ensures.items)
