use Rattle.links.proofs.Handing.{handed_was_given}
use Rattle.links.proofs.theorems.links_hand_over_what_was_given.Goals as goal

pub returns : goal.returns
returns c = handed_was_given
