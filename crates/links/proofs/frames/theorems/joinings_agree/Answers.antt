use Rattle.links.proofs.of_frames.Joinings.{joinings_agree}
use Rattle.links.proofs.frames.theorems.joinings_agree.Goals as goal

pub returns : goal.returns
returns c = joinings_agree
