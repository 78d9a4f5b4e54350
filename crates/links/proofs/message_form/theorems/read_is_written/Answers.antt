use Rattle.links.proofs.of_message_form.MessagesFound.{read_is_written}
use Rattle.links.proofs.message_form.theorems.read_is_written.Goals as goal

pub returns : goal.returns
returns c = read_is_written
