use Rattle.links.proofs.of_message_form.MessagesAgain.{written_is_read}
use Rattle.links.proofs.message_form.theorems.written_is_read.Goals as goal

pub returns : goal.returns
returns c = written_is_read
