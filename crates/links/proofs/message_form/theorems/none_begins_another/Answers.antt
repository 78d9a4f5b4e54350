use Rattle.links.proofs.of_message_form.MessagesAgain.{none_begins_another}
use Rattle.links.proofs.message_form.theorems.none_begins_another.Goals as goal

pub returns : goal.returns
returns c = none_begins_another
