use Rattle.links.proofs.of_frames.PartsJoined.{none_begins_another}
use Rattle.links.proofs.frames.theorems.no_message_begins_another.Goals as goal

pub returns : goal.returns
returns c = none_begins_another
