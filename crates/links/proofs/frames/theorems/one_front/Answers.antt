use Rattle.links.proofs.of_frames.OneWay.{one_front}
use Rattle.links.proofs.frames.theorems.one_front.Goals as goal

pub returns : goal.returns
returns c = one_front
