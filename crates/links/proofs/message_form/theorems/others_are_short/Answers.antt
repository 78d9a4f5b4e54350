use Rattle.links.proofs.of_message_form.Lengths.{others_are_short}
use Rattle.links.proofs.message_form.theorems.others_are_short.Goals as goal

pub returns : goal.returns
returns c = others_are_short
