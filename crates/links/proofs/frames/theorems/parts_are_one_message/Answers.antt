use Rattle.links.proofs.of_frames.PartsJoined.{parts_joined}
use Rattle.links.proofs.frames.theorems.parts_are_one_message.Goals as goal

pub returns : goal.returns
returns c = parts_joined
