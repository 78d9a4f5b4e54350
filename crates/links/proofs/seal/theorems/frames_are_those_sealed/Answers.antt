use Rattle.links.proofs.of_seal.SealedFrames.{those_sealed}
use Rattle.links.proofs.seal.theorems.frames_are_those_sealed.Goals as goal

pub returns : goal.returns
returns c = those_sealed
