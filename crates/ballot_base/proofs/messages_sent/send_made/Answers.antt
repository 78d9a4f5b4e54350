use Rattle.ballot_base.proofs.SendsJoin.{Sends-lost}
use Rattle.ballot_base.proofs.messages_sent.send_made.Goals as goal

pub returns-in-Err : goal.returns-in-Err
returns-in-Err g c = λ body made. Sends-lost _ _ _
